-- What the first bytes of a file say of it.
use Rattle.std.proofs.Common.{◌≡◌, ℕ, ◌+◌, ◌<◌, ◌≤◌, min, List, take, length, Some, IsTrue, sym, ◌∙◌, ap, arith}
use Rattle.std.proofs.lemmas.List.{length-take, take_all}
use Rattle.mc_host.specs.Host.{HostState, GivesFile, OnlyReads}
use Rattle.call_lines.specs.declared.ending.Problem.TheVariants.{TooLong}
use Rattle.top_call.specs.Print.{HasProblem, text_limit}

-- more bytes than a text has, so the file is too long
pub too_long : (host : HostState) (name bytes : List ℕ) → GivesFile host name text_limit bytes → text_limit < length bytes →
    IsTrue host.tells → HasProblem host name TooLong
too_long host name bytes gives long tells =
    let content = (gives tells).0 in
    let cut : length bytes ≡ min (text_limit + 1) (length content) =
    ap (λ xs. length xs) (gives tells).2 ∙ length-take (text_limit + 1) content in
    (content, (gives tells).1, omega (arith, cut, long))

-- no more bytes than the limit, so this is the whole file
pub whole : (host : HostState) (name bytes : List ℕ) (limit : ℕ) → GivesFile host name limit bytes → length bytes ≤ limit →
    IsTrue host.tells → host.file name ≡ Some bytes
whole host name bytes limit gives short tells =
    let content = (gives tells).0 in
    let cut : length bytes ≡ min (limit + 1) (length content) =
    ap (λ xs. length xs) (gives tells).2 ∙ length-take (limit + 1) content in
    let all : take (limit + 1) content ≡ content = take_all (limit + 1) content (omega (arith, cut, short)) in
    (gives tells).1 ∙ ap (λ xs. Some xs) (sym ((gives tells).2 ∙ all))

-- what only reads twice only reads
pub reads_twice : (a b c : HostState) → OnlyReads a b → OnlyReads b c → OnlyReads a c
reads_twice a b c first second = record {
  rights = record {
    may_read = second.rights.may_read ∙ first.rights.may_read;
    may_write = second.rights.may_write ∙ first.rights.may_write;
    tells = second.rights.tells ∙ first.rights.tells;
  };
  files = second.files ∙ first.files;
  read_faults = omega (arith, first.read_faults, second.read_faults);
  write_faults = second.write_faults ∙ first.write_faults;
}

pub still_tells : (a b : HostState) → OnlyReads a b → IsTrue a.tells → IsTrue b.tells
still_tells a b reads tells = reads.rights.tells ∙ tells
