-- Numbers one after another, and the lines that they make.
use Rattle.std.proofs.Common.{◌≡◌, ◌≢◌, ℕ, ◌+◌, ◌^◌, ◌<◌, ◌≤◌, false, List, [], ◌∷◌, ◌++◌, Option, None, Some, length, get_or, refl, sym, ap, subst, ◌∙◌, arith, codes, append_assoc, Ok, Err, IfOk}
use Rattle.std.specs.Prelude.{All, MatchOption}
use Rattle.std.specs.declared.result.Result.{Result}
use Rattle.std.specs.List.{flat_map}
use denote.Ref.{Bor}
use Rattle.std.specs.Fmt.{decimal}
use Rattle.std.proofs.lemmas.List.{append_cancel_left, length-append, append-nil, flat_map_more, nil_from_length}
use Rattle.std.proofs.lemmas.List.Elements.{All-nil, All-cons, All-head, All-tail, All-push}
use Rattle.std.proofs.lemmas.Option.{none-some, same_Some}
use Rattle.ir_types.specs.Bytes.{heads, is_digit}
use Rattle.profile.specs.declared.lines.Line.{Line}
use Rattle.profile.specs.declared.lines.Line.TheVariants.{Function, Block}
use Rattle.profile.specs.Forms.{front_number, Run, AddsBehind, NoneBehind, AddsLine}
use Rattle.profile.specs.Reading.{Fits, BeginsWithLine, HasLines, StopsBehind}
use Rattle.profile.specs.Text.{spaced, word, numbers, line_text, first_line, text_of_lines}
use Rattle.profile.proofs.Fronts.{front_decimal, front_is, front_feed}

-- ---- runs of numbers

-- what is read from the front is one thing
same_front : (bytes : List ℕ) (n m : ℕ) (rest mid : List ℕ) → front_number bytes ≡ Some (n, rest) → front_number bytes ≡ Some (m, mid) → (n ≡ m) × (rest ≡ mid)
same_front bytes n m rest mid e f =
    let pair : (n, rest) ≡ (m, mid) = same_Some (n, rest) (m, mid) (sym e ∙ f) in
    (ap (λ (p : ℕ × List ℕ). p.0) pair, ap (λ (p : ℕ × List ℕ). p.1) pair)

stops_here : (bytes : List ℕ) (n : ℕ) (rest : List ℕ) → front_number bytes ≡ None → front_number bytes ≡ Some (n, rest) → ⊥
stops_here bytes n rest e f = none-some (n, rest) (sym e ∙ f)

pub run_push : (bytes : List ℕ) (ns : List ℕ) (mid : List ℕ) (n : ℕ) (rest : List ℕ) → Run bytes ns mid → front_number mid ≡ Some (n, rest) → Run bytes (ns ++ n ∷ []) rest
run_push bytes [] mid n rest h e = (rest, ap front_number h ∙ e, refl)
run_push bytes (m ∷ ns) mid n rest h e = (h.0, h.1, run_push h.0 ns mid n rest h.2 e)

-- two runs that can't go on are the same
pub same_run : (bytes : List ℕ) (ns ms rest behind : List ℕ) → Run bytes ns rest → front_number rest ≡ None → Run bytes ms behind → front_number behind ≡ None → (ns ≡ ms) × (rest ≡ behind)
same_run bytes [] [] rest behind h s k t = (refl, sym h ∙ k)
same_run bytes [] (m ∷ ms) rest behind h s k t = absurd (stops_here bytes m k.0 (ap front_number h ∙ s) k.1)
same_run bytes (n ∷ ns) [] rest behind h s k t = absurd (stops_here bytes n h.0 (ap front_number k ∙ t) h.1)
same_run bytes (n ∷ ns) (m ∷ ms) rest behind h s k t =
    let f = same_front bytes n m h.0 k.0 h.1 k.1 in
    let more = same_run h.0 ns ms rest behind h.2 s (subst (λ l. Run l ms behind) (sym f.1) k.2) t in
    (ap (λ x. x ∷ ns) f.0 ∙ ap (λ l. m ∷ l) more.0, more.1)

regroup : (n : ℕ) (more rest : List ℕ) → ((32 ∷ decimal n) ++ more) ++ rest ≡ 32 ∷ (decimal n ++ (more ++ rest))
regroup n more rest = ap (λ l. 32 ∷ l) (append_assoc (decimal n) more rest)

pub run_of : (ns rest : List ℕ) → All (λ n. n < 2 ^ 64) ns → heads is_digit rest ≡ false → Run (spaced ns ++ rest) ns rest
run_of [] rest all stop = refl
run_of (n ∷ ns) rest all stop = (
  spaced ns ++ rest,
  ap front_number (regroup n (spaced ns) rest) ∙ front_decimal n (spaced ns ++ rest) (All-head (λ n. n < 2 ^ 64) n ns all) (stops ns),
  run_of ns rest (All-tail (λ n. n < 2 ^ 64) n ns all) stop,
)
  where
    stops : (ms : List ℕ) → heads is_digit (spaced ms ++ rest) ≡ false
    stops [] = stop
    stops (m ∷ ms) = refl

pub record IsSpaced (bytes ns rest : List ℕ) : Type 0 where
  pub text : bytes ≡ spaced ns ++ rest
  pub small : All (λ n. n < 2 ^ 64) ns

pub run_is : (bytes ns rest : List ℕ) → Run bytes ns rest → IsSpaced bytes ns rest
run_is bytes [] rest h = record { text = h; small = All-nil (λ n. n < 2 ^ 64) }
run_is bytes (n ∷ ns) rest h =
    let f = front_is bytes n h.0 h.1 in
    let more = run_is h.0 ns rest h.2 in
    record {
      text = f.text ∙ ap (λ l. 32 ∷ (decimal n ++ l)) more.text ∙ sym (regroup n (spaced ns) rest);
      small = All-cons (λ n. n < 2 ^ 64) n ns f.small more.small;
    }

-- ---- lines

pub line_parts : (l : Line) (rest : List ℕ) → line_text l ++ rest ≡ word l ++ (spaced (numbers l) ++ 10 ∷ rest)
line_parts l rest = append_assoc (word l) (spaced (numbers l) ++ codes "\n") rest ∙ ap (λ k. word l ++ k) (append_assoc (spaced (numbers l)) (codes "\n") rest)

pub line_run : (l : Line) (rest : List ℕ) → Fits l → Run (spaced (numbers l) ++ 10 ∷ rest) (numbers l) (10 ∷ rest)
line_run l rest fits = run_of (numbers l) (10 ∷ rest) fits refl

pub adds_line : (w bytes mid : List ℕ) (old new : List Line) (rest : List ℕ) → bytes ≡ w ++ mid → AddsBehind w mid old new rest → AddsLine bytes old new rest
adds_line w bytes mid old new rest e a =
    let r = run_is mid (numbers a.line) (10 ∷ rest) a.run in
    record {
      line = a.line;
      fits = r.small;
      text = e ∙ ap (λ k. k ++ mid) (sym a.is_word) ∙ ap (λ k. word a.line ++ k) r.text ∙ sym (line_parts a.line rest);
      added = a.added;
    }

pub no_line : (bytes : List ℕ) → ((l : Line) → Fits l → (rest : List ℕ) → bytes ≡ word l ++ (spaced (numbers l) ++ 10 ∷ rest) → ⊥) → ¬ (BeginsWithLine bytes)
no_line bytes no' b = no' b.line b.fits b.rest (b.text ∙ line_parts b.line b.rest)

pub two_words : (x y : List ℕ) → codes "func" ++ x ≡ codes "block" ++ y → ⊥
two_words x y e = let h : 102 ≡ 98 = ap (λ (l : List ℕ). get_or l 0 0) e in absurd (omega (arith, h))

-- where a word stands and no line with it, no line stands
pub no_function : (bytes mid : List ℕ) → bytes ≡ codes "func" ++ mid → NoneBehind (codes "func") mid → ¬ (BeginsWithLine bytes)
no_function bytes mid e none = no_line bytes (λ l fits rest f. go l fits rest (sym e ∙ f))
  where
    go : (l : Line) → Fits l → (rest : List ℕ) → codes "func" ++ mid ≡ word l ++ (spaced (numbers l) ++ 10 ∷ rest) → ⊥
    go (Function k n) fits rest f =
        let same : mid ≡ spaced (k ∷ n ∷ []) ++ 10 ∷ rest = append_cancel_left (codes "func") mid (spaced (k ∷ n ∷ []) ++ 10 ∷ rest) f in
        none (Function k n) refl rest (subst (λ t. Run t (k ∷ n ∷ []) (10 ∷ rest)) (sym same) (line_run (Function k n) rest fits))
    go (Block b ns) fits rest f = two_words mid (spaced (b ∷ ns) ++ 10 ∷ rest) f

pub no_block : (bytes mid : List ℕ) → bytes ≡ codes "block" ++ mid → NoneBehind (codes "block") mid → ¬ (BeginsWithLine bytes)
no_block bytes mid e none = no_line bytes (λ l fits rest f. go l fits rest (sym e ∙ f))
  where
    go : (l : Line) → Fits l → (rest : List ℕ) → codes "block" ++ mid ≡ word l ++ (spaced (numbers l) ++ 10 ∷ rest) → ⊥
    go (Function k n) fits rest f = two_words (spaced (k ∷ n ∷ []) ++ 10 ∷ rest) mid (sym f)
    go (Block b ns) fits rest f =
        let same : mid ≡ spaced (b ∷ ns) ++ 10 ∷ rest = append_cancel_left (codes "block") mid (spaced (b ∷ ns) ++ 10 ∷ rest) f in
        none (Block b ns) refl rest (subst (λ t. Run t (b ∷ ns) (10 ∷ rest)) (sym same) (line_run (Block b ns) rest fits))

pub no_word : (bytes : List ℕ) → ((rest : List ℕ) → bytes ≢ codes "func" ++ rest) → ((rest : List ℕ) → bytes ≢ codes "block" ++ rest) → ¬ (BeginsWithLine bytes)
no_word bytes f b = no_line bytes go
  where
    go : (l : Line) → Fits l → (rest : List ℕ) → bytes ≡ word l ++ (spaced (numbers l) ++ 10 ∷ rest) → ⊥
    go (Function k n) fits rest e = f (spaced (k ∷ n ∷ []) ++ 10 ∷ rest) e
    go (Block k ns) fits rest e = b (spaced (k ∷ ns) ++ 10 ∷ rest) e

-- ---- a line behind its word

pub none_first : (w bytes : List ℕ) → front_number bytes ≡ None → NoneBehind w bytes
none_first w bytes e (Function k n) is rest r = stops_here bytes k r.0 e r.1
none_first w bytes e (Block b ns) is rest r = stops_here bytes b r.0 e r.1

pub none_second : (bytes : List ℕ) (k : ℕ) (mid : List ℕ) → front_number bytes ≡ Some (k, mid) → front_number mid ≡ None → NoneBehind (codes "func") bytes
none_second bytes k mid e s (Function m n) is rest r =
    let f = same_front bytes k m mid r.0 e r.1 in
    stops_here r.0 n r.2.0 (ap front_number (sym f.1) ∙ s) r.2.1
none_second bytes k mid e s (Block b ns) is rest r = cc

pub none_third : (bytes : List ℕ) (k n : ℕ) (mid behind : List ℕ) → front_number bytes ≡ Some (k, mid) → front_number mid ≡ Some (n, behind) → ((rest : List ℕ) → behind ≢ codes "\n" ++ rest) → NoneBehind (codes "func") bytes
none_third bytes k n mid behind e g s (Function i j) is rest r =
    let f = same_front bytes k i mid r.0 e r.1 in
    let h = same_front mid n j behind r.2.0 g (ap front_number f.1 ∙ r.2.1) in
    s rest (h.1 ∙ r.2.2)
none_third bytes k n mid behind e g s (Block b ns) is rest r = cc

pub none_run : (bytes : List ℕ) (k : ℕ) (ns mid behind : List ℕ) → front_number bytes ≡ Some (k, mid) → Run mid ns behind → front_number behind ≡ None → ((rest : List ℕ) → behind ≢ codes "\n" ++ rest) → NoneBehind (codes "block") bytes
none_run bytes k ns mid behind e run end s (Function i j) is rest r = cc
none_run bytes k ns mid behind e run end s (Block b ms) is rest r =
    let f = same_front bytes k b mid r.0 e r.1 in
    s rest (same_run mid ns ms behind (10 ∷ rest) run end (subst (λ t. Run t ms (10 ∷ rest)) (sym f.1) r.2) (front_feed rest)).1

-- ---- a line, by its word

pub from_function : {E : Type 0} (bytes mid : List ℕ) (old new : List Line) → bytes ≡ codes "func" ++ mid → (r : Result (Option (Bor (List ℕ))) E) → IfOk r (λ o. MatchOption o (NoneBehind (codes "func") mid) (λ x. AddsBehind (codes "func") mid old new x.now))
    → IfOk r (λ o. MatchOption o (¬ (BeginsWithLine bytes)) (λ x. AddsLine bytes old new x.now))
from_function bytes mid old new e (Ok None) h = no_function bytes mid e h
from_function bytes mid old new e (Ok (Some x)) h = adds_line (codes "func") bytes mid old new x.now e h
from_function bytes mid old new e (Err x) h = tt

pub from_block : {E : Type 0} (bytes mid : List ℕ) (old new : List Line) → bytes ≡ codes "block" ++ mid → (r : Result (Option (Bor (List ℕ))) E) → IfOk r (λ o. MatchOption o (NoneBehind (codes "block") mid) (λ x. AddsBehind (codes "block") mid old new x.now))
    → IfOk r (λ o. MatchOption o (¬ (BeginsWithLine bytes)) (λ x. AddsLine bytes old new x.now))
from_block bytes mid old new e (Ok None) h = no_block bytes mid e h
from_block bytes mid old new e (Ok (Some x)) h = adds_line (codes "block") bytes mid old new x.now e h
from_block bytes mid old new e (Err x) h = tt

-- ---- all lines

-- the text is made of these lines, up to what is left
pub record LinesSoFar (bytes : List ℕ) (ls : List Line) (rest : List ℕ) : Type 0 where
  pub text : bytes ≡ text_of_lines ls ++ rest
  pub fit : All Fits ls

pub lines_none : (bytes rest : List ℕ) → bytes ≡ first_line ++ rest → LinesSoFar bytes [] rest
lines_none bytes rest e = record { text = e; fit = All-nil Fits }

pub lines_more : (bytes : List ℕ) (old new : List Line) (rest later : List ℕ) → LinesSoFar bytes old rest → AddsLine rest old new later → LinesSoFar bytes new later
lines_more bytes old new rest later s a = record {
  text =
      s.text ∙ ap (λ l. text_of_lines old ++ l) a.text ∙ sym (append_assoc (text_of_lines old) (line_text a.line) later)
      ∙ ap (λ l. l ++ later) (flat_map_more line_text first_line old a.line) ∙ ap (λ ls. text_of_lines ls ++ later) (sym a.added);
  fit = subst (λ ls. All Fits ls) (sym a.added) (All-push Fits old a.line s.fit a.fits);
}

pub lines_all : (bytes : List ℕ) (ls : List Line) (rest : List ℕ) → length rest ≡ 0 → LinesSoFar bytes ls rest → HasLines bytes ls
lines_all bytes ls rest none s = record { text = s.text ∙ ap (λ l. text_of_lines ls ++ l) (nil_from_length rest none) ∙ append-nil (text_of_lines ls); fit = s.fit }

pub line_shorter : (rest : List ℕ) (old new : List Line) (later : List ℕ) → AddsLine rest old new later → length later < length rest
line_shorter rest old new later a = omega (arith, ap length a.text, length-append (line_text a.line) later, some a.line)
  where
    some : (l : Line) → 0 < length (line_text l)
    some (Function k n) = omega arith
    some (Block b ns) = omega arith

pub few_lines : (bytes : List ℕ) (ls : List Line) (rest : List ℕ) → LinesSoFar bytes ls rest → length ls + 16 ≤ length bytes
few_lines bytes ls rest s = omega (arith, ap length s.text, length-append (text_of_lines ls) rest, length-append first_line (flat_map line_text ls), short ls)
  where
    some : (l : Line) → 0 < length (line_text l)
    some (Function k n) = omega arith
    some (Block b ns) = omega arith

    short : (ls : List Line) → length ls ≤ length (flat_map line_text ls)
    short [] = omega arith
    short (l ∷ ls) = omega (arith, length-append (line_text l) (flat_map line_text ls), some l, short ls)

pub stops_behind : (bytes : List ℕ) (ls : List Line) (rest : List ℕ) → LinesSoFar bytes ls rest → (length rest ≡ 0 → ⊥) → ¬ (BeginsWithLine rest) → StopsBehind bytes ls
stops_behind bytes ls rest s some none = record { fit = s.fit; rest = rest; text = s.text; goes_on = λ e. some (ap length e); formless = none }
