-- What an ending of `print` says of its file.
use Rattle.std.proofs.Common.{◌≡◌, ℕ, List, length, Ok, Err, Some, IsTrue, ◌⊎◌, inl, inr, refl, sym, ap, subst, ◌∙◌, arith}
use Rattle.mc_host.specs.Faults.{Rose}
use Rattle.mc_host.specs.Host.{HostState, OnlyReads}
use Rattle.ir_types.specs.Program.{Program}
use Rattle.ir_printer.specs.Text.{text_of}
use Rattle.ir_reader.specs.Reading.{Reads, HasOneAnswer}
use Rattle.call_lines.specs.declared.ending.Problem.{Problem}
use Rattle.call_lines.specs.declared.ending.Problem.TheVariants.{TooLong, Text, Grown, NoMain, LongProfile, BadProfile, LongOutput, BadCertificate}
use Rattle.call_lines.specs.declared.ending.Done.TheVariants.{Written, Checked, Returned}
use Rattle.call_lines.specs.declared.ending.Stop.{Stop}
use Rattle.call_lines.specs.declared.ending.Stop.TheVariants.{Usage, Refused, ReadFault, WriteFault, OutOfMemory, No, Trapped, StepLimit}
use Rattle.call_lines.specs.Ending.{Ending, status_of}
use Rattle.top_call.specs.Print.{ReadsAs, PrintsAs, HasProblem, PrintEnds}
use Rattle.top_call.specs.Stops.{StopsReading}

-- a file that was not read
pub read_stopped : (input output : List ℕ) (old new : HostState) (stop : Stop) → StopsReading input TooLong old new stop → OnlyReads old new → PrintEnds input output old new (Err stop)
read_stopped input output old new (Refused file problem) stops reads =
    let P : Problem → Type 0 = λ p. IsTrue old.tells → HasProblem old input p in
    (stops.0, reads.files, subst P (sym stops.1) stops.2)
read_stopped input output old new (ReadFault name) stops reads = (stops.0, reads.files, stops.1)
read_stopped input output old new OutOfMemory stops reads = λ tells. inl (ap (λ (file : List ℕ → _). file output) reads.files)
read_stopped input output old new Usage stops reads = absurd stops
read_stopped input output old new (No reason) stops reads = absurd stops
read_stopped input output old new (WriteFault name) stops reads = absurd stops
read_stopped input output old new (Trapped trap) stops reads = absurd stops
read_stopped input output old new (StepLimit steps) stops reads = absurd stops

module _ (one : (bytes : List ℕ) → HasOneAnswer bytes) (host : HostState) (input : List ℕ) where
  same_content : (a b : List ℕ) → host.file input ≡ Some a → host.file input ≡ Some b → a ≡ b
  same_content a b e f = let g : Some a ≡ Some b = sym e ∙ f in cc

  -- a file reads as one program
  pub same_program : (m n : Program) → ReadsAs host input m → ReadsAs host input n → m ≡ n
  same_program m n reads other =
      let same = same_content reads.content other.content reads.holds other.holds in
      let P : List ℕ → Type 0 = λ l. Reads l m in
      (one other.content).one_module m n (subst P same reads.reads) other.reads

  -- a file that reads as a program isn't too long
  pub not_long : (m : Program) → ReadsAs host input m → ¬ (HasProblem host input TooLong)
  not_long m reads has =
      let same = same_content reads.content has.0 reads.holds has.1 in
      let l = ap (λ (l : List ℕ). length l) same in
      absurd (omega (arith, l, reads.short, has.2))

  -- and its text isn't refused
  pub not_refused : (m : Program) (refusal : _) (excerpt : _) → ReadsAs host input m → ¬ (HasProblem host input (Text refusal excerpt))
  not_refused m refusal excerpt reads has =
      let same = same_content reads.content has.0 reads.holds has.1 in
      let P : List ℕ → Type 0 = λ l. Reads l m in
      (one has.0).not_both m refusal (subst P same reads.reads) has.3

  -- what prints has no problem
  not_both : (text : List ℕ) (problem : Problem) → PrintsAs host input text → ¬ (HasProblem host input problem)
  not_both text TooLong prints has = not_long prints.program prints.reads has
  not_both text (Text refusal excerpt) prints has = not_refused prints.program refusal excerpt prints.reads has
  not_both text NoMain prints has = absurd has
  not_both text LongOutput prints has = absurd has
  not_both text (BadCertificate path) prints has = absurd has
  not_both text LongProfile prints has = absurd has
  not_both text (BadProfile problem) prints has = absurd has
  not_both text Grown prints has =
      let program : has.0 ≡ prints.program = same_program has.0 prints.program has.1 prints.reads in
      let l = ap (λ (m : Program). length (text_of m)) program in
      let k = ap (λ (l : List ℕ). length l) prints.is_text in
      absurd (omega (arith, l, k, prints.fits, has.2))

  pub print_not_done : (output : List ℕ) (new : HostState) (ending : Ending) → PrintEnds input output host new ending → IsTrue host.tells
      → (problem : Problem) → HasProblem host input problem → (status_of ending ≡ 1) ⊎ (status_of ending ≡ 3) ⊎ (status_of ending ≡ 5)
  print_not_done output new (Ok Written) ends tells problem refused = absurd (let done = ends tells in not_both done.0 problem done.1 refused)
  print_not_done output new (Ok (Returned value)) ends tells problem refused = absurd ends
  print_not_done output new (Ok Checked) ends tells problem refused = absurd ends
  print_not_done output new (Err (Refused file told)) ends tells problem refused = inl refl
  print_not_done output new (Err (ReadFault name)) ends tells problem refused = inr (inl refl)
  print_not_done output new (Err (WriteFault name)) ends tells problem refused = absurd (let done = ends.2 tells in not_both done.0 problem done.1 refused)
  print_not_done output new (Err OutOfMemory) ends tells problem refused = inr (inr refl)
  print_not_done output new (Err Usage) ends tells problem refused = absurd ends
  print_not_done output new (Err (No reason)) ends tells problem refused = absurd ends
  print_not_done output new (Err (Trapped trap)) ends tells problem refused = absurd ends
  print_not_done output new (Err (StepLimit steps)) ends tells problem refused = absurd ends

  pub print_complete : (output : List ℕ) (new : HostState) (ending : Ending) → PrintEnds input output host new ending → IsTrue host.tells
      → (text : List ℕ) → PrintsAs host input text → ¬ (Rose host.read_faults new.read_faults) → ¬ (Rose host.write_faults new.write_faults)
      → (status_of ending ≡ 0) ⊎ (status_of ending ≡ 5)
  print_complete output new (Ok done) ends tells text prints reads writes = inl refl
  print_complete output new (Err (Refused file told)) ends tells text prints reads writes = absurd (not_both text told prints (ends.2 tells))
  print_complete output new (Err (ReadFault name)) ends tells text prints reads writes = absurd (reads ends.2)
  print_complete output new (Err (WriteFault name)) ends tells text prints reads writes = absurd (writes ends.1)
  print_complete output new (Err OutOfMemory) ends tells text prints reads writes = inr refl
  print_complete output new (Err Usage) ends tells text prints reads writes = absurd ends
  print_complete output new (Err (No reason)) ends tells text prints reads writes = absurd ends
  print_complete output new (Err (Trapped trap)) ends tells text prints reads writes = absurd ends
  print_complete output new (Err (StepLimit steps)) ends tells text prints reads writes = absurd ends

  -- what is refused of a file that reads is that its text is too long
  refused_as_grown : (m : Program) → ReadsAs host input m → (problem : Problem) → HasProblem host input problem → HasProblem host input Grown
  refused_as_grown m reads Grown has = has
  refused_as_grown m reads TooLong has = absurd (not_long m reads has)
  refused_as_grown m reads (Text refusal excerpt) has = absurd (not_refused m refusal excerpt reads has)
  refused_as_grown m reads NoMain has = absurd has
  refused_as_grown m reads LongOutput has = absurd has
  refused_as_grown m reads (BadCertificate path) has = absurd has
  refused_as_grown m reads LongProfile has = absurd has
  refused_as_grown m reads (BadProfile problem) has = absurd has

  pub print_grown : (output : List ℕ) (new : HostState) (ending : Ending) → PrintEnds input output host new ending → IsTrue host.tells
      → (m : Program) → ReadsAs host input m → ¬ (Rose host.read_faults new.read_faults) → ¬ (Rose host.write_faults new.write_faults)
      → (status_of ending ≡ 0) ⊎ (status_of ending ≡ 5) ⊎ ((status_of ending ≡ 1) × HasProblem host input Grown)
  print_grown output new (Ok done) ends tells m is_read reads writes = inl refl
  print_grown output new (Err (Refused file told)) ends tells m is_read reads writes = inr (inr (refl, refused_as_grown m is_read told (ends.2 tells)))
  print_grown output new (Err (ReadFault name)) ends tells m is_read reads writes = absurd (reads ends.2)
  print_grown output new (Err (WriteFault name)) ends tells m is_read reads writes = absurd (writes ends.1)
  print_grown output new (Err OutOfMemory) ends tells m is_read reads writes = inr (inl refl)
  print_grown output new (Err Usage) ends tells m is_read reads writes = absurd ends
  print_grown output new (Err (No reason)) ends tells m is_read reads writes = absurd ends
  print_grown output new (Err (Trapped trap)) ends tells m is_read reads writes = absurd ends
  print_grown output new (Err (StepLimit steps)) ends tells m is_read reads writes = absurd ends
