-- Texts that grow at their ends.
use Rattle.std.proofs.Common.{◌≡◌, ℕ, ◌+◌, ◌<◌, Ok, Err, OnOk, List, ◌∷◌, ◌++◌, append_assoc, length, drop, get_or, ap, sym, ◌∙◌}
use Rattle.std.specs.declared.result.Result.{Result}
use Rattle.std.proofs.lemmas.List.{drop_more}
use Rattle.ir_types.specs.Program.{Program}
use Rattle.ir_types.specs.declared.syntax.Function.{Function}
use Rattle.tallies.specs.declared.tally.Tally.{Tally}
use Rattle.report.specs.Report.{tally_line, tally_lines}

-- the same whole in other parts
pub same_whole : {T E : Type 0} (r : Result T E) (written one other : List ℕ) → OnOk r (written ≡ one) → one ≡ other → OnOk r (written ≡ other)
same_whole (Ok _) written one other h e = h ∙ e
same_whole (Err _) written one other h e = tt

-- a part behind what was there, and what follows it
pub step : (before behind part rest : List ℕ) → behind ≡ before ++ part → behind ++ rest ≡ before ++ (part ++ rest)
step before behind part rest e = ap (λ (l : List ℕ). l ++ rest) e ∙ append_assoc before part rest

-- the line of one expression more, and what follows it
pub next_line : (m : Program) (f : Function) (ts : List Tally) (x : ℕ) (t : Tally) (old new : List ℕ) → x < length ts → t ≡ get_or ts x t → new ≡ old ++ tally_line m f x t →
    new ++ tally_lines m f (x + 1) (drop (x + 1) ts) ≡ old ++ tally_lines m f x (drop x ts)
next_line m f ts x t old new lt is put =
    let first : drop x ts ≡ t ∷ drop (x + 1) ts = drop_more ts x t lt ∙ ap (λ u. u ∷ drop (x + 1) ts) (sym is) in
    step old new (tally_line m f x t) (tally_lines m f (x + 1) (drop (x + 1) ts)) put ∙ ap (λ l. old ++ tally_lines m f x l) (sym first)
