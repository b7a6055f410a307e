-- The frames that wait, as the code keeps them: the nearest last.
use Rattle.std.proofs.Common.{◌≡◌, ℕ, ◌+◌, ◌-◌, ◌<◌, List, [], ◌∷◌, ◌++◌, length, reverse, take, get_or, Option, sym, ap, ◌∙◌, arith, get_or-set_same}
use Rattle.std.proofs.Math.ListN.{set}
use Rattle.std.proofs.Math.Seq.{take-length, set-append_seam, get_or-append_seam}
use Rattle.std.proofs.lemmas.List.{take_more, take-set, reverse-append}
use Rattle.std.specs.Option.{unwrap_or}
use Rattle.ir_types.specs.Program.{Program}
use Rattle.ir_machine.specs.declared.frame.Frame.{Frame}
use Rattle.machines.specs.declared.events.Event.TheVariants.{Went}
use Rattle.machines.specs.Acts.{turned, returned}
use Rattle.ir_machine.specs.Step.{Globals, past, frames_of}

last_first : (below : List Frame) (d : Frame) → 0 < length below → reverse below ≡ get_or below (length below - 1) d ∷ reverse (take (length below - 1) below)
last_first below d lt =
    let n = length below - 1 in
    let e : n + 1 ≡ length below = omega arith in
    let whole = sym (take-length below) ∙ ap (λ k. take k below) (sym e) ∙ take_more below n d (omega arith) in
    ap reverse whole ∙ reverse-append (take n below) (get_or below n d ∷ [])

pub returned_to : (m : Program) (value : Option ℕ) (top : Frame) (below rest : List Frame) (called caller passed : Frame) (last : ℕ) (globals : Globals) → 0 < length below → last ≡ length below → called ≡ get_or below (last - 1) called → passed ≡ past called (unwrap_or value 0) → caller ≡ get_or (set below (last - 1) passed) (length below - 1) passed → rest ≡ take (length below - 1) (set below (last - 1) passed) → returned (frames_of m) value top (reverse below) globals ≡ turned Went caller (reverse rest) globals
returned_to m value top below rest called caller passed last globals lt e at is_passed is_caller is_rest =
    let n = length below - 1 in
    let f : last - 1 ≡ n = omega arith in
    let caller_is : caller ≡ passed = is_caller ∙ ap (λ k. get_or (set below k passed) n passed) f ∙ get_or-set_same below n passed passed (omega arith) in
    let rest_is : rest ≡ take n below = is_rest ∙ ap (λ k. take n (set below k passed)) f ∙ take-set below n passed in
    let called_is : get_or below n called ≡ called = sym (at ∙ ap (λ k. get_or below k called) f) in
    ap (λ l. returned (frames_of m) value top l globals) (last_first below called lt)
    ∙ ap (λ x. turned Went (past x (unwrap_or value 0)) (reverse (take n below)) globals) called_is
    ∙ ap (λ x. turned Went x (reverse (take n below)) globals) (sym (caller_is ∙ is_passed))
    ∙ ap (λ l. turned Went caller (reverse l) globals) (sym rest_is)

pub swapped : (below pushed : List Frame) (first top x y : Frame) (last : ℕ) → pushed ≡ below ++ first ∷ [] → last ≡ length below + 1 → x ≡ get_or pushed (last - 1) x → y ≡ top → (x ≡ first) × (set pushed (last - 1) y ≡ below ++ top ∷ [])
swapped below pushed first top x y last e n at is_top =
    let f : last - 1 ≡ length below = omega arith in (
      at ∙ ap (λ l. get_or l (last - 1) x) e ∙ ap (λ k. get_or (below ++ first ∷ []) k x) f ∙ get_or-append_seam below first [] x,
      ap (λ l. set l (last - 1) y) e ∙ ap (λ k. set (below ++ first ∷ []) k y) f ∙ set-append_seam below first [] y ∙ ap (λ z. below ++ z ∷ []) is_top,
    )
