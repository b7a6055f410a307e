-- How the search for the reached blocks keeps what it knows.
use Rattle.std.proofs.Common.{◌≡◌, ℕ, ◌<◌, ◌+◌, Bool, true, false, not, cond, List, [], ◌∷◌, ◌++◌, Option, Some, None, length, get_or, set, count_by, refl, sym, ap, ◌∙◌, subst, arith, inl, inr, ⊎_elim, get_or-set_same, get_or-set_other, slice_get, replicate}
use Rattle.std.specs.Prelude.{Contains, option_and_then}
use Rattle.std.proofs.lemmas.List.{length-set, length_push, get_or_past, length-replicate, get_or-replicate}
use Rattle.std.proofs.lemmas.Option.{none-some, slice_get_within, slice_get_read, get_or_from_slice_get}
use Rattle.std.proofs.lemmas.List.Sums.{sum_by-set}
use Rattle.std.proofs.lemmas.List.Elements.{Contains-append_left, Contains-append_right, Contains-append_cases, Contains-push, Contains-push_cases, Contains-get_or}
use Rattle.std.proofs.lemmas.Bool.{cases_eq, cases_lt, true≢false}
use Rattle.ir_types.specs.declared.syntax.Block.{Block}
use Rattle.ir_types.specs.declared.syntax.Function.{Function}
use Rattle.flow_graph.specs.declared.reaching.Search.{Search}
use Rattle.flow_graph.specs.Slots.{slots_of, next_block}
use Rattle.flow_graph.specs.Paths.{IsPath, IsReached, AreReached, is_marked}
use Rattle.flow_graph.specs.Searching.{IsMarked, Reaches, IsFollowed, Searching}

-- ---- one block

unset-set : (bits : List Bool) (k : ℕ) → k < length bits → get_or bits k false ≡ false → count_by not (set bits k true) + 1 ≡ count_by not bits
unset-set bits k h e =
    let s = sum_by-set (λ b. cond (not b) 1 0) bits k true false h in
    let t : ◌≡◌ {A = ℕ} (cond (not (get_or bits k false)) 1 0) 1 = ap (λ b. cond (not b) 1 0) e in
    omega (arith, s, t)

only : (b c : ℕ) → Contains (b ∷ []) c → c ≡ b
only b c h = elim (cases_eq h.0 0) [
  | inl z ↦ sym (ap (λ k. get_or (b ∷ []) k c) (sym z) ∙ h.2)
  | inr nz ↦ absurd (omega (arith, h.1))
]

-- a block that is marked now, and is to be visited
pub Reaches-one : (b : ℕ) (old new : Search) → b < length old.marks.items → get_or old.marks.items b false ≡ false → new.marks.items ≡ set old.marks.items b true → new.pending.items ≡ old.pending.items ++ b ∷ [] → Reaches (b ∷ []) old new
Reaches-one b old new inside unset e p = record {
  len = ap length e ∙ length-set old.marks.items b true;
  kept = λ c h. here c h;
  marked = λ c h lt. subst (λ x. IsMarked new x) (sym (only b c h)) now;
  fresh = λ c h. ⊎_elim
      (λ (same : c ≡ b). inr (subst (λ x. Contains (b ∷ []) x) (sym same) (Contains-get_or (b ∷ []) 0 0 (omega arith)), subst (λ l. Contains l c) (sym p) (subst (λ x. Contains (old.pending.items ++ b ∷ []) x) (sym same) (Contains-push old.pending.items b))))
      (λ (other : c ≡ b → ⊥). inl (sym (get_or-set_other old.marks.items b c true false other) ∙ (ap (λ l. get_or l c false) (sym e) ∙ h)))
      (cases_eq c b);
  waiting = λ c h. subst (λ l. Contains l c) (sym p) (Contains-append_left old.pending.items (b ∷ []) c h);
  added = λ c h. ⊎_elim
      (λ (before : Contains old.pending.items c). inl before)
      (λ (same : b ≡ c). inr (subst (λ x. IsMarked new x) same now))
      (Contains-push_cases old.pending.items b c (subst (λ l. Contains l c) p h));
  work =
      let one = unset-set old.marks.items b inside unset in
      let marks : count_by not new.marks.items ≡ count_by not (set old.marks.items b true) = ap (count_by not) e in
      let more : length new.pending.items ≡ length old.pending.items + 1 = ap length p ∙ length_push old.pending.items b in
      omega (arith, one, marks, more);
}
  where
    now : IsMarked new b
    now = ap (λ l. get_or l b false) e ∙ get_or-set_same old.marks.items b true false inside

    here : (c : ℕ) → IsMarked old c → IsMarked new c
    here c h = ⊎_elim
        (λ (same : c ≡ b). subst (λ x. IsMarked new x) (sym same) now)
        (λ (other : c ≡ b → ⊥). ap (λ l. get_or l c false) e ∙ (get_or-set_other old.marks.items b c true false other ∙ h))
        (cases_eq c b)

-- nothing changes where all the blocks are marked, or there are no such ones
pub Reaches-none : (blocks : List ℕ) (s : Search) → ((b : ℕ) → Contains blocks b → b < length s.marks.items → IsMarked s b) → Reaches blocks s s
Reaches-none blocks s h = record {
  len = refl;
  kept = λ b m. m;
  marked = h;
  fresh = λ b m. inl m;
  waiting = λ b m. m;
  added = λ b m. inl m;
  work = refl;
}

pub Reaches-none_one : (b : ℕ) (s : Search) → (b < length s.marks.items → IsMarked s b) → Reaches (b ∷ []) s s
Reaches-none_one b s h = Reaches-none (b ∷ []) s (λ c k lt. subst (λ x. IsMarked s x) (sym (only b c k)) (h (subst (λ x. x < length s.marks.items) (only b c k) lt)))

pub Reaches-nil : (s : Search) → Reaches [] s s
Reaches-nil s = Reaches-none [] s (λ b h lt. absurd (omega (arith, h.1)))

-- one after another
pub Reaches-both : (xs ys : List ℕ) (a b c : Search) → Reaches xs a b → Reaches ys b c → Reaches (xs ++ ys) a c
Reaches-both xs ys a b c first second = record {
  len = second.len ∙ first.len;
  kept = λ x m. second.kept x (first.kept x m);
  marked = λ x h lt. ⊎_elim
      (λ (l : Contains xs x). second.kept x (first.marked x l lt))
      (λ (r : Contains ys x). second.marked x r (omega (arith, lt, first.len)))
      (Contains-append_cases xs ys x h);
  fresh = λ x m. ⊎_elim
      (λ (before : IsMarked b x). ⊎_elim
      (λ (old : IsMarked a x). inl old)
      (λ (new : Contains xs x × Contains b.pending.items x). inr (Contains-append_left xs ys x new.0, second.waiting x new.1))
      (first.fresh x before))
      (λ (new : Contains ys x × Contains c.pending.items x). inr (Contains-append_right xs ys x new.0, new.1))
      (second.fresh x m);
  waiting = λ x h. second.waiting x (first.waiting x h);
  added = λ x h. ⊎_elim
      (λ (before : Contains b.pending.items x). ⊎_elim
      (λ (old : Contains a.pending.items x). inl old)
      (λ (new : IsMarked b x). inr (second.kept x new))
      (first.added x before))
      (λ (new : IsMarked c x). inr new)
      (second.added x h);
  work = second.work ∙ first.work;
}

-- ---- the whole search

and_then_some : {A B : Type 0} (f : A → Option B) (o : Option A) (y : B) → option_and_then f o ≡ Some y → (x : A) × (o ≡ Some x) × (f x ≡ Some y)
and_then_some f None y e = absurd (none-some y e)
and_then_some f (Some x) y e = (x, refl, e)

-- a block with a slot is one of the function
has_block : (f : Function) (b slot next : ℕ) → next_block f b slot ≡ Some next → b < length f.blocks
has_block f b slot next e = let h = and_then_some (λ (x : Block). slice_get (slots_of x.term) slot) (slice_get f.blocks b) next e in slice_get_within f.blocks b h.0 h.1

slot_stands : (f : Function) (b slot next : ℕ) (x : Block) → slice_get f.blocks b ≡ Some x → next_block f b slot ≡ Some next → Contains (slots_of x.term) next
slot_stands f b slot next x at e =
    let h : slice_get (slots_of x.term) slot ≡ Some next = ap (λ (o : Option Block). option_and_then (λ (y : Block). slice_get (slots_of y.term) slot) o) (sym at) ∙ e in
    (slot, slice_get_within (slots_of x.term) slot next h, get_or_from_slice_get (slots_of x.term) slot next next h)

stands_slot : (f : Function) (b : ℕ) (x : Block) (next : ℕ) → slice_get f.blocks b ≡ Some x → (h : Contains (slots_of x.term) next) → next_block f b h.0 ≡ Some next
stands_slot f b x next at h =
    ap (λ (o : Option Block). option_and_then (λ (y : Block). slice_get (slots_of y.term) h.0) o) at
    ∙ slice_get_read (slots_of x.term) (length (slots_of x.term)) h.0 next refl h.1 (sym h.2)

-- a reached block reaches what its slots lead to
reached_next : (f : Function) (b slot next : ℕ) → next_block f b slot ≡ Some next → next < length f.blocks → IsReached f b → IsReached f next
reached_next f b slot next e inside r = record { inside = inside; path = r.path ++ slot ∷ []; leads = longer 0 r.path r.leads }
  where
    longer : (a : ℕ) (path : List ℕ) → IsPath f a path b → IsPath f a (path ++ slot ∷ []) next
    longer a [] h = (next, subst (λ x. next_block f x slot ≡ Some next) (sym h) e, refl)
    longer a (s ∷ path) h = (h.0, h.1, longer h.0 path h.2)

marked_inside : (s : Search) (b : ℕ) → IsMarked s b → b < length s.marks.items
marked_inside s b h = elim (cases_lt b (length s.marks.items)) [
  | inl inside ↦ inside
  | inr past ↦ absurd (true≢false (sym h ∙ get_or_past s.marks.items b false past))
]

-- only the entry is marked
pub Searching-start : (f : Function) (s t : Search) → s.marks.items ≡ replicate (length f.blocks) false → s.pending.items ≡ [] → Reaches (0 ∷ []) s t → Searching f t
Searching-start f s t marks pending r =
    let len : length s.marks.items ≡ length f.blocks = ap length marks ∙ length-replicate (length f.blocks) false in
    let none : (b : ℕ) → IsMarked s b → ⊥ = λ b m. no_mark b m in
    let empty : (b : ℕ) → Contains s.pending.items b → ⊥ = λ b h. nothing b (subst (λ l. Contains l b) pending h) in
    record {
      len = r.len ∙ len;
      entry = λ some. r.marked 0 (Contains-get_or (0 ∷ []) 0 0 (omega arith)) (omega (arith, some, len));
      sound = λ b m. ⊎_elim
          (λ (old : IsMarked s b). absurd (none b old))
          (λ (new : Contains (0 ∷ []) b × Contains t.pending.items b). record { inside = omega (arith, marked_inside t b m, r.len, len); path = []; leads = sym (only 0 b new.0) })
          (r.fresh b m);
      waiting = λ b h. ⊎_elim
          (λ (old : Contains s.pending.items b). absurd (empty b old))
          (λ (new : IsMarked t b). new)
          (r.added b h);
      closed = λ b m. ⊎_elim
          (λ (old : IsMarked s b). absurd (none b old))
          (λ (new : Contains (0 ∷ []) b × Contains t.pending.items b). inl new.1)
          (r.fresh b m);
    }
  where
    nothing : (b : ℕ) → Contains [] b → ⊥
    nothing b h = omega (arith, h.1)

    no_mark : (b : ℕ) → IsMarked s b → ⊥
    no_mark b m =
        let inside : b < length f.blocks = omega (arith, marked_inside s b m, ap length marks, length-replicate (length f.blocks) false) in
        true≢false (sym m ∙ (ap (λ l. get_or l b false) marks ∙ get_or-replicate (length f.blocks) b false false inside))

-- one more block is visited
pub Searching-step : (f : Function) (b : ℕ) (x : Block) (s u t : Search) → u.marks.items ≡ s.marks.items → s.pending.items ≡ u.pending.items ++ b ∷ [] → slice_get f.blocks b ≡ Some x → Reaches (slots_of x.term) u t → Searching f s → Searching f t
Searching-step f b x s u t same popped at r k =
    let here : IsReached f b = k.sound b (k.waiting b (subst (λ l. Contains l b) (sym popped) (Contains-push u.pending.items b))) in
    let before : (c : ℕ) → IsMarked u c → IsMarked s c = λ c m. ap (λ l. get_or l c false) (sym same) ∙ m in
    let len : length t.marks.items ≡ length f.blocks = r.len ∙ (ap length same ∙ k.len) in
    let stays : (c : ℕ) → IsMarked s c → IsMarked t c = λ c m. r.kept c (ap (λ l. get_or l c false) same ∙ m) in
    record {
      len = len;
      entry = λ some. stays 0 (k.entry some);
      sound = λ c m. ⊎_elim
          (λ (old : IsMarked u c). k.sound c (before c old))
          (λ (new : Contains (slots_of x.term) c × Contains t.pending.items c). reached_next f b new.0.0 c (stands_slot f b x c at new.0) (omega (arith, marked_inside t c m, len)) here)
          (r.fresh c m);
      waiting = λ c h. ⊎_elim
          (λ (old : Contains u.pending.items c). stays c (k.waiting c (subst (λ l. Contains l c) (sym popped) (Contains-append_left u.pending.items (b ∷ []) c old))))
          (λ (new : IsMarked t c). new)
          (r.added c h);
      closed = λ c m. ⊎_elim
          (λ (old : IsMarked u c). ⊎_elim
          (λ (waits : Contains s.pending.items c). ⊎_elim
          (λ (still : Contains u.pending.items c). inl (r.waiting c still))
          (λ (now : b ≡ c). inr (λ slot next e lt. r.marked next (slot_stands f b slot next x at (subst (λ y. next_block f y slot ≡ Some next) (sym now) e)) (omega (arith, lt, r.len))))
          (Contains-push_cases u.pending.items b c (subst (λ l. Contains l c) popped waits)))
          (λ (followed : IsFollowed f s c). inr (λ slot next e lt. stays next (followed slot next e (omega (arith, lt, len, k.len)))))
          (k.closed c (before c old)))
          (λ (new : Contains (slots_of x.term) c × Contains t.pending.items c). inl new.1)
          (r.fresh c m);
    }

-- a path from a marked block stays with the marked blocks once each of them is followed
stays_marked : (f : Function) (s : Search) → length s.marks.items ≡ length f.blocks → ((c : ℕ) → IsMarked s c → IsFollowed f s c) → (a : ℕ) (path : List ℕ) (b : ℕ) → b < length f.blocks → IsMarked s a → IsPath f a path b → IsMarked s b
stays_marked f s len closed a [] b inside m h = subst (λ x. IsMarked s x) h m
stays_marked f s len closed a (slot ∷ path) b inside m h =
    stays_marked f s len closed h.0 path b inside (closed a m slot h.0 h.1 (omega (arith, len, block h.0 path h.2))) h.2
  where
    block : (n : ℕ) (path : List ℕ) → IsPath f n path b → n < length f.blocks
    block n [] e = subst (λ x. x < length f.blocks) (sym e) inside
    block n (t ∷ more) e = has_block f n t e.0 e.1

-- nothing is left to visit
pub Searching-end : (f : Function) (s : Search) → s.pending.items ≡ [] → Searching f s → AreReached f (is_marked s.marks.items)
Searching-end f s done k b = (k.sound b, λ r. stays_marked f s k.len followed 0 r.path b r.inside (k.entry (omega (arith, r.inside))) r.leads)
  where
    nothing : (c : ℕ) → Contains [] c → ⊥
    nothing c h = omega (arith, h.1)

    followed : (c : ℕ) → IsMarked s c → IsFollowed f s c
    followed c m = ⊎_elim
        (λ (waits : Contains s.pending.items c). absurd (nothing c (subst (λ l. Contains l c) done waits)))
        (λ (h : IsFollowed f s c). h)
        (k.closed c m)

-- a block that is to be visited is one of the function
pub popped_inside : (f : Function) (s : Search) (rest : List ℕ) (b : ℕ) → s.pending.items ≡ rest ++ b ∷ [] → Searching f s → b < length f.blocks
popped_inside f s rest b popped k = (k.sound b (k.waiting b (subst (λ l. Contains l b) (sym popped) (Contains-push rest b)))).inside
