-- There are as many tallies as functions that have blocks.
use Rattle.std.proofs.Common.{◌≡◌, ℕ, ◌+◌, not, cond, Bool, List, [], ◌∷◌, length, take, refl, ap, sym, ◌∙◌, arith}
use Rattle.std.specs.Prelude.{filter, count_by}
use Rattle.std.proofs.lemmas.List.{take_all}
use Rattle.std.proofs.lemmas.List.Sums.{length-filter, sum_by-cons}
use Rattle.ir_types.specs.Rules.{is_nil}
use Rattle.ir_types.specs.declared.syntax.Block.{Block}
use Rattle.ir_types.specs.declared.syntax.Function.{Function}
use Rattle.ir_machine.specs.Same as same
use Rattle.profile.specs.Counts.{is_defined}

some_blocks : (bs : List Block) → same.is_defined bs ≡ not (is_nil bs)
some_blocks [] = refl
some_blocks (b ∷ bs) = refl

as_defined : (fs : List Function) → count_by (λ f. same.is_defined f.blocks) fs ≡ count_by is_defined fs
as_defined [] = refl
as_defined (f ∷ fs) =
    sum_by-cons (λ g. cond (same.is_defined g.blocks) 1 0) f fs
    ∙ ap (λ (b : Bool). cond b 1 0 + count_by (λ g. same.is_defined g.blocks) fs) (some_blocks f.blocks)
    ∙ ap (λ (n : ℕ). cond (is_defined f) 1 0 + n) (as_defined fs)
    ∙ sym (sum_by-cons (λ g. cond (is_defined g) 1 0) f fs)

-- the number of functions with blocks that come before the end
pub defined_in_all : (fs : List Function) → count_by (λ f. same.is_defined f.blocks) (take (length fs) fs) ≡ length (filter is_defined fs)
defined_in_all fs = ap (count_by (λ f. same.is_defined f.blocks)) (take_all (length fs) fs (omega arith)) ∙ as_defined fs ∙ sym (length-filter is_defined fs)
