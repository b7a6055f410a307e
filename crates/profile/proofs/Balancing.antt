-- What holds while sums are made of slots and compared, block by block.
use Rattle.std.proofs.Common.{◌≡◌, ◌≢◌, ℕ, ◌+◌, ◌-◌, ◌^◌, ◌<◌, ◌≤◌, ◌==◌, ◌&&◌, not, Bool, true, false, cond, List, [], ◌∷◌, Option, None, Some, length, take, drop, get_or, slice_get, sum, refl, sym, ap, subst, ◌∙◌, arith, inl, inr}
use Rattle.std.specs.Prelude.{MatchOption}
use Rattle.std.proofs.lemmas.List.Elements.{All-from_get_or}
use Rattle.std.specs.Bool.{IsTrue}
use Rattle.std.specs.List.{zip}
use Rattle.std.specs.Option.{option_map_or}
use Rattle.std.proofs.lemmas.List.{drop_more, drop_all, get_or_past}
use Rattle.std.proofs.lemmas.List.Sums.{sum_by-cons, sum_by-take-drop, sum_by-le}
use Rattle.std.proofs.lemmas.Bool.{cases_Bool, cases_eq, cases_lt, true≢false}
use Rattle.std.proofs.lemmas.Option.{slice_get-get_or, slice_get_past}
use Rattle.ir_types.specs.declared.syntax.Block.{Block}
use Rattle.ir_types.specs.declared.syntax.Function.{Function}
use Rattle.flow_graph.specs.Slots.{slots_of, slots_from}
use Rattle.flow_graph.specs.Paths.{IsReached, AreReached, is_marked}
use Rattle.profile.specs.declared.counts.FnCounts.{FnCounts}
use Rattle.profile.specs.Counts.{HasSlots, IsUnreachedZero, IsBalanced, entering, leaving, is_return, goes_on, total}
use Rattle.profile.specs.Reading.{IsFirstUnbalanced, IsFirstUnreached}
use Rattle.profile.specs.Sums.{into, entered, left, DiffersFirst}
use Rattle.profile.specs.Text.{width}
use Rattle.profile.proofs.Summed.{into_more, into_le, sum_left, some_of, entered_yes, entered_no, left_here, left_later, rest_len}

-- a sum at a place, or 0 past the end
past : (sums : List ℕ) (b : ℕ) → length sums ≤ b → get_or sums b 0 ≡ 0
past sums b le = get_or_past sums b 0 le

parts : (w : ℕ) (cs : List ℕ) → sum cs ≡ sum (take w cs) + sum (drop w cs)
parts w cs = sym (sum_by-take-drop (λ x. x) cs w)

-- ---- the slots of a terminator

pub record AddingSlots (ts cs start sums : List ℕ) (i : ℕ) : Type 0 where
  pub is : (b : ℕ) → b < length sums → get_or sums b 0 ≡ get_or start b 0 + into b (take i ts) (take i cs)
  pub room : (b : ℕ) → get_or sums b 0 + sum (drop i cs) < 2 ^ 128

pub adding_none : (ts cs start : List ℕ) → ((b : ℕ) → get_or start b 0 + sum cs < 2 ^ 128) → AddingSlots ts cs start start 0
adding_none ts cs start room = record { is = λ b lt. omega arith; room = room }

pub adding_more : (ts cs start sums new : List ℕ) (i t n : ℕ) → slice_get ts i ≡ Some t → i < length cs → n ≡ get_or cs i n → length new ≡ length sums → ((b : ℕ) → b < length sums → get_or new b 0 ≡ get_or sums b 0 + cond (t == b) n 0) → AddingSlots ts cs start sums i → AddingSlots ts cs start new (i + 1)
adding_more ts cs start sums new i t n there lt is len change s = record {
  is = λ b h. (let old = s.is b (omega arith) in let step = change b (omega arith) in omega (arith, into_more b ts cs i t n there lt is));
  room = λ b. elim (cases_lt b (length sums)) [
    | inl inside ↦ (let step = change b inside in let before = s.room b in omega (arith, sum_left cs i n lt is, some_of (t == b) n))
    | inr beyond ↦ (let before = s.room b in omega (arith, sum_left cs i n lt is, past new b (omega arith)))
  ];
}

pub record CountingSlots (ts cs : List ℕ) (b count i : ℕ) : Type 0 where
  pub is : count ≡ into b (take i ts) (take i cs)
  pub small : count + sum (drop i cs) ≤ sum cs

pub counting_more : (ts cs : List ℕ) (b count i t n got : ℕ) → slice_get ts i ≡ Some t → i < length cs → n ≡ get_or cs i n → got ≡ cond (t == b) n 0 → CountingSlots ts cs b count i → CountingSlots ts cs b (count + got) (i + 1)
counting_more ts cs b count i t n got there lt is g s = record {
  is = omega (arith, s.is, g, into_more b ts cs i t n there lt is);
  small = omega (arith, s.small, g, sum_left cs i n lt is, some_of (t == b) n);
}

-- ---- the blocks of a function

pub record AddingBlocks (blocks : List Block) (test : ℕ → Bool) (cs start sums rest : List ℕ) (i : ℕ) : Type 0 where
  pub len : length rest ≡ length (slots_from i (drop i blocks))
  pub is : (b : ℕ) → b < length sums → get_or sums b 0 + entered test b (zip (slots_from i (drop i blocks)) rest) ≡ get_or start b 0 + entered test b (zip (slots_from 0 blocks) cs)
  pub room : (b : ℕ) → get_or sums b 0 + sum rest < 2 ^ 128

-- the blocks that are left begin with this one
here : (blocks : List Block) (i : ℕ) (x : Block) → i < length blocks → x ≡ get_or blocks i x → drop i blocks ≡ x ∷ drop (i + 1) blocks
here blocks i x lt is = drop_more blocks i x lt ∙ ap (λ y. y ∷ drop (i + 1) blocks) (sym is)

pub front_fits : (blocks : List Block) (i : ℕ) (x : Block) (rest : List ℕ) → i < length blocks → x ≡ get_or blocks i x → length rest ≡ length (slots_from i (drop i blocks)) → width x ≤ length rest
front_fits blocks i x rest lt is len = (rest_len i x (drop (i + 1) blocks) rest (len ∙ ap (λ l. length (slots_from i l)) (here blocks i x lt is))).0

later_len : (blocks : List Block) (i : ℕ) (x : Block) (rest : List ℕ) → i < length blocks → x ≡ get_or blocks i x → length rest ≡ length (slots_from i (drop i blocks)) → length (drop (width x) rest) ≡ length (slots_from (i + 1) (drop (i + 1) blocks))
later_len blocks i x rest lt is len = (rest_len i x (drop (i + 1) blocks) rest (len ∙ ap (λ l. length (slots_from i l)) (here blocks i x lt is))).1

pub blocks_yes : (blocks : List Block) (test : ℕ → Bool) (cs start sums new rest later : List ℕ) (i : ℕ) (x : Block) → i < length blocks → x ≡ get_or blocks i x → test i ≡ true → later ≡ drop (width x) rest → length new ≡ length sums →
    ((b : ℕ) → b < length sums → get_or new b 0 ≡ get_or sums b 0 + into b (slots_of x.term) (take (width x) rest)) → AddingBlocks blocks test cs start sums rest i → AddingBlocks blocks test cs start new later (i + 1)
blocks_yes blocks test cs start sums new rest later i x lt is yes' l len change s =
    subst (λ r. AddingBlocks blocks test cs start new r (i + 1)) (sym l)
    (record {
      len = later_len blocks i x rest lt is s.len;
      is = λ b h. (let old = s.is b (omega arith) in let step = change b (omega arith) in
          let split : entered test b (zip (slots_from i (drop i blocks)) rest) ≡ into b (slots_of x.term) (take (width x) rest) + entered test b (zip (slots_from (i + 1) (drop (i + 1) blocks)) (drop (width x) rest)) =
          ap (λ l. entered test b (zip (slots_from i l) rest)) (here blocks i x lt is) ∙ entered_yes test b i x (drop (i + 1) blocks) rest yes' in omega (arith, old, step, split));
      room = λ b. elim (cases_lt b (length sums)) [
        | inl inside ↦ (let step = change b inside in let before = s.room b in omega (arith, parts (width x) rest, into_le b (slots_of x.term) (take (width x) rest)))
        | inr beyond ↦ (let before = s.room b in omega (arith, parts (width x) rest, past new b (omega arith)))
      ];
    })

pub blocks_no : (blocks : List Block) (test : ℕ → Bool) (cs start sums rest later : List ℕ) (i : ℕ) (x : Block) → i < length blocks → x ≡ get_or blocks i x → test i ≡ false → later ≡ drop (width x) rest → AddingBlocks blocks test cs start sums rest i → AddingBlocks blocks test cs start sums later (i + 1)
blocks_no blocks test cs start sums rest later i x lt is no' l s =
    subst (λ r. AddingBlocks blocks test cs start sums r (i + 1)) (sym l)
    (record {
      len = later_len blocks i x rest lt is s.len;
      is = λ b h. (let old = s.is b h in
          let split : entered test b (zip (slots_from i (drop i blocks)) rest) ≡ entered test b (zip (slots_from (i + 1) (drop (i + 1) blocks)) (drop (width x) rest)) =
          ap (λ l. entered test b (zip (slots_from i l) rest)) (here blocks i x lt is) ∙ entered_no test b i x (drop (i + 1) blocks) rest no' in omega (arith, old, split));
      room = λ b. (let before = s.room b in omega (arith, parts (width x) rest));
    })

-- ---- what enters one block

pub record CountingBlocks (f : Function) (c : FnCounts) (b count : ℕ) (blocks : List Block) (rest : List ℕ) (i : ℕ) : Type 0 where
  pub same : blocks ≡ f.blocks
  pub len : length rest ≡ length (slots_from i (drop i blocks))
  pub is : count + entered (λ _. true) b (zip (slots_from i (drop i blocks)) rest) ≡ entering (λ _. true) f c b
  pub small : count + sum rest ≤ total c

pub counting_start : (f : Function) (c : FnCounts) (b count : ℕ) (blocks : List Block) (rest : List ℕ) → blocks ≡ f.blocks → rest ≡ c.slots → count ≡ cond (b == 0) c.entry 0 → HasSlots f c → CountingBlocks f c b count blocks rest 0
counting_start f c b count blocks rest same r e slots = record {
  same = same;
  len = ap length r ∙ slots ∙ ap (λ l. length (slots_from 0 l)) (sym same);
  is = ap (λ n. n + entered (λ _. true) b (zip (slots_from 0 blocks) rest)) e ∙ ap (λ l. cond (b == 0) c.entry 0 + entered (λ _. true) b (zip (slots_from 0 l) rest)) same ∙ ap (λ l. cond (b == 0) c.entry 0 + entered (λ _. true) b (zip (slots_from 0 f.blocks) l)) r;
  small = omega (arith, ap sum r, e, some_of (b == 0) c.entry);
}

pub counting_blocks : (f : Function) (c : FnCounts) (b count got : ℕ) (blocks : List Block) (rest later : List ℕ) (i : ℕ) (x : Block) → i < length blocks → x ≡ get_or blocks i x → later ≡ drop (width x) rest → got ≡ into b (slots_of x.term) (take (width x) rest) → CountingBlocks f c b count blocks rest i → CountingBlocks f c b (count + got) blocks later (i + 1)
counting_blocks f c b count got blocks rest later i x lt is l g s =
    subst (λ r. CountingBlocks f c b (count + got) blocks r (i + 1)) (sym l)
    (record {
      same = s.same;
      len = later_len blocks i x rest lt is s.len;
      is =
          (let split : entered (λ _. true) b (zip (slots_from i (drop i blocks)) rest) ≡ into b (slots_of x.term) (take (width x) rest) + entered (λ _. true) b (zip (slots_from (i + 1) (drop (i + 1) blocks)) (drop (width x) rest)) =
          ap (λ l. entered (λ _. true) b (zip (slots_from i l) rest)) (here blocks i x lt is) ∙ entered_yes (λ _. true) b i x (drop (i + 1) blocks) rest refl in
          let old = s.is in omega (arith, old, split, g));
      small = omega (arith, s.small, g, parts (width x) rest, into_le b (slots_of x.term) (take (width x) rest));
    })

-- slots of blocks that the test doesn't tell have no counts
same_entered : (test : ℕ → Bool) (b : ℕ) (ss : List ((ℕ × ℕ) × ℕ)) → ((a : ℕ) → test a ≡ false → left a ss ≡ 0) → entered (λ _. true) b ss ≡ entered test b ss
same_entered test b [] h = refl
same_entered test b (s ∷ ss) h =
    sum_by-cons (λ (s : (ℕ × ℕ) × ℕ). cond (s.0.1 == b) s.1 0) s ss ∙ ap (λ n. cond (s.0.1 == b) s.1 0 + n) (same_entered test b ss (λ a e. (both a e).1)) ∙ ap (λ n. n + entered test b ss) (one (test s.0.0) refl)
    ∙ sym (sum_by-cons (λ (s : (ℕ × ℕ) × ℕ). cond (test s.0.0 && (s.0.1 == b)) s.1 0) s ss)
  where
    both : (a : ℕ) → test a ≡ false → (cond (s.0.0 == a) s.1 0 ≡ 0) × (left a ss ≡ 0)
    both a e = let t = sum_by-cons (λ (s : (ℕ × ℕ) × ℕ). cond (s.0.0 == a) s.1 0) s ss in let z = h a e in (omega (arith, t, z), omega (arith, t, z))

    itself : (n : ℕ) → n == n ≡ true
    itself n = grind arith

    none : (r : Bool) → s.1 ≡ 0 → cond r s.1 0 ≡ 0
    none true e = e
    none false e = refl

    one : (r : Bool) → test s.0.0 ≡ r → cond (s.0.1 == b) s.1 0 ≡ cond (test s.0.0 && (s.0.1 == b)) s.1 0
    one true e = ap (λ r. cond (r && (s.0.1 == b)) s.1 0) (sym e)
    one false e =
        let zero' : s.1 ≡ 0 = ap (λ r. cond r s.1 0) (sym (itself s.0.0)) ∙ (both s.0.0 e).0 in
        none (s.0.1 == b) zero' ∙ ap (λ r. cond (r && (s.0.1 == b)) s.1 0) (sym e)

not_reached : (f : Function) (test : ℕ → Bool) (b : ℕ) → AreReached f test → test b ≡ false → ¬ (IsReached f b)
not_reached f test b are e r = true≢false (sym ((are b).1 r) ∙ e)

pub counting_end : (f : Function) (c : FnCounts) (b count : ℕ) (blocks : List Block) (rest : List ℕ) (i : ℕ) → length blocks ≤ i → IsUnreachedZero f c → CountingBlocks f c b count blocks rest i → (reached : ℕ → Bool) → AreReached f reached → count ≡ entering reached f c b
counting_end f c b count blocks rest i le zero' s reached are =
    let done : entered (λ _. true) b (zip (slots_from i (drop i blocks)) rest) ≡ 0 = ap (λ l. entered (λ _. true) b (zip (slots_from i l) rest)) (drop_all i blocks le) in
    let whole = s.is in
    let same = same_entered reached b (zip (slots_from 0 f.blocks) c.slots) (λ a e. zero' a (not_reached f reached a are e)) in
    let count_is : count ≡ entering (λ _. true) f c b = omega (arith, done, whole) in
    count_is ∙ ap (λ n. cond (b == 0) c.entry 0 + n) same

-- ---- the first block out of balance

pub record Comparing (f : Function) (c : FnCounts) (test : ℕ → Bool) (sums : List ℕ) (blocks : List Block) (rest : List ℕ) (i : ℕ) : Type 0 where
  pub same : blocks ≡ f.blocks
  pub len : length rest ≡ length (slots_from i (drop i blocks))
  pub later : (b : ℕ) → i ≤ b → leaving f c b ≡ left b (zip (slots_from i (drop i blocks)) rest)
  pub done : (b : ℕ) → b < i → IsTrue (test b) → IsTrue (goes_on f b) → get_or sums b 0 ≡ leaving f c b

pub comparing_start : (f : Function) (c : FnCounts) (test : ℕ → Bool) (sums : List ℕ) (blocks : List Block) (rest : List ℕ) → blocks ≡ f.blocks → rest ≡ c.slots → HasSlots f c → Comparing f c test sums blocks rest 0
comparing_start f c test sums blocks rest same r slots = record {
  same = same;
  len = ap length r ∙ slots ∙ ap (λ l. length (slots_from 0 l)) (sym same);
  later = λ b le. ap (λ l. left b (zip (slots_from 0 l) c.slots)) (sym same) ∙ ap (λ l. left b (zip (slots_from 0 blocks) l)) (sym r);
  done = λ b lt. absurd (omega arith);
}

-- what leaves the block at hand
pub leaving_here : (f : Function) (c : FnCounts) (test : ℕ → Bool) (sums : List ℕ) (blocks : List Block) (rest : List ℕ) (i : ℕ) (x : Block) → i < length blocks → x ≡ get_or blocks i x → Comparing f c test sums blocks rest i → leaving f c i ≡ sum (take (width x) rest)
leaving_here f c test sums blocks rest i x lt is s =
    s.later i (omega arith) ∙ ap (λ l. left i (zip (slots_from i l) rest)) (here blocks i x lt is) ∙ left_here i x (drop (i + 1) blocks) rest (s.len ∙ ap (λ l. length (slots_from i l)) (here blocks i x lt is))

goes_on_here : (f : Function) (blocks : List Block) (i : ℕ) (x : Block) → blocks ≡ f.blocks → i < length blocks → x ≡ get_or blocks i x → goes_on f i ≡ not (is_return x.term)
goes_on_here f blocks i x same lt is =
    ap (λ (l : List Block). option_map_or (λ (y : Block). not (is_return y.term)) (slice_get l i) false) (sym same)
    ∙ ap (λ o. option_map_or (λ (y : Block). not (is_return y.term)) o false) (slice_get-get_or blocks i x lt)
    ∙ ap (λ (y : Block). not (is_return y.term)) (sym is)

comparing_later : (f : Function) (c : FnCounts) (test : ℕ → Bool) (sums : List ℕ) (blocks : List Block) (rest : List ℕ) (i : ℕ) (x : Block) → i < length blocks → x ≡ get_or blocks i x → Comparing f c test sums blocks rest i →
    (b : ℕ) → i + 1 ≤ b → leaving f c b ≡ left b (zip (slots_from (i + 1) (drop (i + 1) blocks)) (drop (width x) rest))
comparing_later f c test sums blocks rest i x lt is s b le =
    s.later b (omega arith) ∙ ap (λ l. left b (zip (slots_from i l) rest)) (here blocks i x lt is) ∙ left_later b i x (drop (i + 1) blocks) rest (omega arith) (s.len ∙ ap (λ l. length (slots_from i l)) (here blocks i x lt is))

pub comparing_more : (f : Function) (c : FnCounts) (test : ℕ → Bool) (sums : List ℕ) (blocks : List Block) (rest later : List ℕ) (i out : ℕ) (x : Block) → i < length blocks → x ≡ get_or blocks i x → later ≡ drop (width x) rest → out ≡ sum (take (width x) rest) →
    (IsTrue (test i) → is_return x.term ≡ false → get_or sums i 0 ≡ out) → Comparing f c test sums blocks rest i → Comparing f c test sums blocks later (i + 1)
comparing_more f c test sums blocks rest later i out x lt is l o alike s =
    subst (λ r. Comparing f c test sums blocks r (i + 1)) (sym l)
    (record {
      same = s.same;
      len = later_len blocks i x rest lt is s.len;
      later = comparing_later f c test sums blocks rest i x lt is s;
      done = λ b h t g. elim (cases_eq b i) [
        | inl same ↦ (let open' : IsTrue (goes_on f i) = subst (λ n. IsTrue (goes_on f n)) same g in
            ap (λ n. get_or sums n 0) same ∙ alike (subst (λ n. IsTrue (test n)) same t) (off (is_return x.term) (sym (goes_on_here f blocks i x s.same lt is) ∙ open'))
            ∙ o ∙ sym (leaving_here f c test sums blocks rest i x lt is s) ∙ ap (leaving f c) (sym same))
        | inr other ↦ s.done b (omega arith) t g
      ];
    })
  where
    off : (r : Bool) → not r ≡ true → r ≡ false
    off true e = absurd (true≢false (sym e))
    off false e = refl

pub comparing_differs : (f : Function) (c : FnCounts) (test : ℕ → Bool) (sums : List ℕ) (blocks : List Block) (rest : List ℕ) (i out : ℕ) (x : Block) → i < length blocks → x ≡ get_or blocks i x → out ≡ sum (take (width x) rest) →
    IsTrue (test i) → is_return x.term ≡ false → get_or sums i 0 ≢ out → Comparing f c test sums blocks rest i → DiffersFirst f c test sums i (get_or sums i 0) out
comparing_differs f c test sums blocks rest i out x lt is o t g d s = record {
  here = (t, goes_on_here f blocks i x s.same lt is ∙ ap not g);
  is = (refl, o ∙ sym (leaving_here f c test sums blocks rest i x lt is s));
  differ = d;
  first = s.done;
}

pub comparing_end : (f : Function) (c : FnCounts) (test : ℕ → Bool) (sums : List ℕ) (blocks : List Block) (rest : List ℕ) (i : ℕ) → length blocks ≤ i → Comparing f c test sums blocks rest i → (b : ℕ) → IsTrue (test b) → IsTrue (goes_on f b) → get_or sums b 0 ≡ leaving f c b
comparing_end f c test sums blocks rest i le s b t g = elim (cases_lt b i) [
  | inl lt ↦ s.done b lt t g
  | inr beyond ↦ absurd (true≢false (sym g ∙ none beyond))
]
  where
    none : i ≤ b → goes_on f b ≡ false
    none beyond =
        ap (λ (l : List Block). option_map_or (λ (y : Block). not (is_return y.term)) (slice_get l b) false) (sym s.same)
        ∙ ap (λ o. option_map_or (λ (y : Block). not (is_return y.term)) o false) (slice_get_past blocks b (omega arith))

-- ---- sums that are what enters

same_tests : (p q : ℕ → Bool) (b : ℕ) (ss : List ((ℕ × ℕ) × ℕ)) → ((a : ℕ) → p a ≡ q a) → entered p b ss ≡ entered q b ss
same_tests p q b [] h = refl
same_tests p q b (s ∷ ss) h =
    sum_by-cons (λ (s : (ℕ × ℕ) × ℕ). cond (p s.0.0 && (s.0.1 == b)) s.1 0) s ss ∙ ap (λ n. cond (p s.0.0 && (s.0.1 == b)) s.1 0 + n) (same_tests p q b ss h)
    ∙ ap (λ r. cond (r && (s.0.1 == b)) s.1 0 + entered q b ss) (h s.0.0) ∙ sym (sum_by-cons (λ (s : (ℕ × ℕ) × ℕ). cond (q s.0.0 && (s.0.1 == b)) s.1 0) s ss)

pub alike : (f : Function) (p q : ℕ → Bool) → AreReached f p → AreReached f q → (a : ℕ) → p a ≡ q a
alike f p q x y a = go (p a) (q a) refl refl
  where
    go : (r t : Bool) → p a ≡ r → q a ≡ t → p a ≡ q a
    go true true e g = e ∙ sym g
    go false false e g = e ∙ sym g
    go true false e g = absurd (true≢false (sym ((y a).1 ((x a).0 e)) ∙ g))
    go false true e g = absurd (true≢false (sym ((x a).1 ((y a).0 g)) ∙ e))

pub same_entering : (f : Function) (c : FnCounts) (p q : ℕ → Bool) (b : ℕ) → AreReached f p → AreReached f q → entering p f c b ≡ entering q f c b
same_entering f c p q b x y = ap (λ n. cond (b == 0) c.entry 0 + n) (same_tests p q b (zip (slots_from 0 f.blocks) c.slots) (alike f p q x y))

pub balance_is : (f : Function) (c : FnCounts) (marks : List Bool) (sums : List ℕ) (r : Option (ℕ × ℕ × ℕ)) → AreReached f (is_marked marks) → ((b : ℕ) → b < length f.blocks → get_or sums b 0 ≡ entering (is_marked marks) f c b) →
    MatchOption r ((b : ℕ) → IsTrue (is_marked marks b) → IsTrue (goes_on f b) → get_or sums b 0 ≡ leaving f c b) (λ x. DiffersFirst f c (is_marked marks) sums x.0 x.1 x.2) → MatchOption r (IsBalanced f c) (λ x. IsFirstUnbalanced f c x.0 x.1 x.2)
balance_is f c marks sums None are is h = λ reached those b t g.
    (let r : IsReached f b = (those b).0 t in
    same_entering f c reached (is_marked marks) b those are ∙ sym (is b r.inside) ∙ h b ((are b).1 r) g)
balance_is f c marks sums (Some x) are is h = record {
  test = is_marked marks;
  reached = are;
  here = h.here;
  sums = (h.is.0 ∙ is x.0 ((are x.0).0 h.here.0).inside, h.is.1);
  differ = h.differ;
  first = λ a lt t g. sym (is a ((are a).0 t).inside) ∙ h.first a lt t g;
}

pub sums_small : (entry : ℕ) (cs : List ℕ) → entry < 2 ^ 64 → length cs < 2 ^ 64 → ((i : ℕ) → get_or cs i 0 < 2 ^ 64) → entry + sum cs < 2 ^ 128
sums_small entry cs e len each =
    let most = sum_by-le (λ x. x) (2 ^ 64 - 1) cs (All-from_get_or (λ x. x ≤ 2 ^ 64 - 1) cs 0 (λ i lt. omega (arith, each i))) in
    omega (arith, most)

-- ---- blocks that are not reached

pub record Looking (f : Function) (c : FnCounts) (test : ℕ → Bool) (blocks : List Block) (rest : List ℕ) (i : ℕ) : Type 0 where
  pub slots : Comparing f c (λ _. false) [] blocks rest i
  pub none : (b : ℕ) → b < i → test b ≡ false → leaving f c b ≡ 0

pub looking_start : (f : Function) (c : FnCounts) (test : ℕ → Bool) (blocks : List Block) (rest : List ℕ) → blocks ≡ f.blocks → rest ≡ c.slots → HasSlots f c → Looking f c test blocks rest 0
looking_start f c test blocks rest same r slots = record { slots = comparing_start f c (λ _. false) [] blocks rest same r slots; none = λ b lt. absurd (omega arith) }

pub looking_more : (f : Function) (c : FnCounts) (test : ℕ → Bool) (blocks : List Block) (rest later : List ℕ) (i out : ℕ) (x : Block) → i < length blocks → x ≡ get_or blocks i x → later ≡ drop (width x) rest → out ≡ sum (take (width x) rest) → (test i ≡ false → out ≡ 0) → Looking f c test blocks rest i → Looking f c test blocks later (i + 1)
looking_more f c test blocks rest later i out x lt is l o zero' s = record {
  slots = comparing_more f c (λ _. false) [] blocks rest later i out x lt is l o (λ t. absurd (true≢false (sym t))) s.slots;
  none = λ b h e. elim (cases_eq b i) [
    | inl same ↦ ap (leaving f c) same ∙ leaving_here f c (λ _. false) [] blocks rest i x lt is s.slots ∙ sym o ∙ zero' (subst (λ n. test n ≡ false) same e)
    | inr other ↦ s.none b (omega arith) e
  ];
}

off : (f : Function) (test : ℕ → Bool) (b : ℕ) → AreReached f test → ¬ (IsReached f b) → test b ≡ false
off f test b are n = elim (cases_Bool (test b)) [ inl t ↦ absurd (n ((are b).0 t)) | inr e ↦ e ]

pub looking_found : (f : Function) (c : FnCounts) (test : ℕ → Bool) (blocks : List Block) (rest : List ℕ) (i out : ℕ) (x : Block) → i < length blocks → x ≡ get_or blocks i x → out ≡ sum (take (width x) rest) → AreReached f test → test i ≡ false → 0 < out → Looking f c test blocks rest i → IsFirstUnreached f c i
looking_found f c test blocks rest i out x lt is o are no' some s = record {
  unreached = not_reached f test i are no';
  leaves = omega (arith, some, o, leaving_here f c (λ _. false) [] blocks rest i x lt is s.slots);
  first = λ a h n. s.none a h (off f test a are n);
}

pub looking_end : (f : Function) (c : FnCounts) (test : ℕ → Bool) (blocks : List Block) (rest : List ℕ) (i : ℕ) → length blocks ≤ i → AreReached f test → Looking f c test blocks rest i → IsUnreachedZero f c
looking_end f c test blocks rest i le are s = λ b n. elim (cases_lt b i) [
  | inl lt ↦ s.none b lt (off f test b are n)
  | inr beyond ↦ s.slots.later b beyond ∙ ap (λ l. left b (zip (slots_from i l) rest)) (drop_all i blocks le)
]
