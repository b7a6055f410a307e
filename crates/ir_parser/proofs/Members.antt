-- The functions and globals of a text, one after the other.
use Rattle.std.proofs.Common.{◌≡◌, ℕ, true, false, List, [], ◌∷◌, ◌++◌, Result, Ok, Err, refl, sym, ap, ◌∙◌}
use Rattle.grammar.specs.Grammar.{repeated, is_next}
use Rattle.grammar.specs.Reading.{Reading, ◌>>=◌, read}
use Rattle.grammar.proofs.Rows.{with_front, goes_on, is_done}
use Rattle.ir_types.specs.declared.tree.RawFunction.{RawFunction}
use Rattle.ir_types.specs.declared.tree.RawGlobal.{RawGlobal}
use Rattle.ir_types.specs.declared.tree.Raw.{Raw}
use Rattle.ir_lexer.specs.Lexeme.{Lexeme}
use Rattle.ir_lexer.specs.declared.token.Token.{Token}
use Rattle.ir_parser.specs.Module.{part, parts_of, functions_of, globals_of, tree_of, module_text}
use Rattle.ir_parser.specs.Reader.{GivesOrMemory}
use Rattle.ir_parser.specs.declared.modules.Member.{Member}
use Rattle.ir_parser.specs.declared.modules.Member.TheVariants.{Function, Global}
use Rattle.ir_parser.specs.declared.tokens.Trouble.{Trouble}
use Rattle.ir_parser.specs.declared.tokens.Trouble.TheVariants.{Memory, Stopped}
use Rattle.ir_parser.proofs.Loops.{halts_so}

-- the members that were read, and what is left to read
pub record IsSoFar (functions : List RawFunction) (globals : List RawGlobal) (here start : List Lexeme) : Type 0 where
  pub front : List Member
  pub functions_are : functions ≡ functions_of front
  pub globals_are : globals ≡ globals_of front
  pub left : with_front front (read (repeated part) here) ≡ read (repeated part) start

functions_with : (front : List Member) (p : Member) → functions_of (front ++ p ∷ []) ≡ functions_of front ++ functions_of (p ∷ [])
functions_with [] p = refl
functions_with (Function f ∷ front) p = ap (λ (l : List RawFunction). f ∷ l) (functions_with front p)
functions_with (Global g ∷ front) p = functions_with front p

globals_with : (front : List Member) (p : Member) → globals_of (front ++ p ∷ []) ≡ globals_of front ++ globals_of (p ∷ [])
globals_with [] p = refl
globals_with (Function f ∷ front) p = globals_with front p
globals_with (Global g ∷ front) p = ap (λ (l : List RawGlobal). g ∷ l) (globals_with front p)

no_front : (r : Reading Lexeme (List Member)) → with_front [] r ≡ r
no_front (Ok x) = refl
no_front (Err stop) = refl

pub none_so_far : (functions : List RawFunction) (globals : List RawGlobal) (start : List Lexeme) → functions ≡ [] → globals ≡ [] → IsSoFar functions globals start start
none_so_far functions globals start f g = record { front = []; functions_are = f; globals_are = g; left = no_front (read (repeated part) start) }

pub one_more : (fs gs : _) (fs2 : List RawFunction) (gs2 : List RawGlobal) (here rest start : List Lexeme) (p : Member) → IsSoFar fs gs here start → is_next part here ≡ true → read part here ≡ Ok (p, rest)
    → fs2 ≡ fs ++ functions_of (p ∷ []) → gs2 ≡ gs ++ globals_of (p ∷ []) → IsSoFar fs2 gs2 rest start
one_more fs gs fs2 gs2 here rest start p so next e f g = record {
  front = so.front ++ p ∷ [];
  functions_are = f ∙ ap (λ (l : List RawFunction). l ++ functions_of (p ∷ [])) so.functions_are ∙ sym (functions_with so.front p);
  globals_are = g ∙ ap (λ (l : List RawGlobal). l ++ globals_of (p ∷ [])) so.globals_are ∙ sym (globals_with so.front p);
  left = goes_on part so.front here rest p (read (repeated part) start) next e so.left;
}

-- the tree of what was read
abbrev grown : Reading Lexeme (List Member) → Reading Lexeme Raw
grown r = r >>= λ x. Ok (tree_of x.0, x.1)

pub all_read : (fs : List RawFunction) (gs : List RawGlobal) (here start : List Lexeme) → IsSoFar fs gs here start → is_next part here ≡ false → read module_text start ≡ Ok (record { functions = fs; globals = gs }, here)
unfolding module_text parts_of
all_read fs gs here start so next =
    ap grown (is_done part so.front here (read (repeated part) start) next so.left) ∙ rw (so.functions_are, so.globals_are) refl

pub stops_so : (fs : List RawFunction) (gs : List RawGlobal) (here start : List Lexeme) (tokens : List Token) (e : Trouble) → IsSoFar fs gs here start → is_next part here ≡ true
    → (let r : Result (Member × ℕ) Trouble = Err e in GivesOrMemory tokens r (read part here)) → (let r : Result (Raw × ℕ) Trouble = Err e in GivesOrMemory tokens r (read module_text start))
unfolding module_text parts_of
stops_so fs gs here start tokens Memory so next h = tt
stops_so fs gs here start tokens (Stopped s) so next h = ap grown (halts_so part so.front here tokens (Stopped s) (read (repeated part) start) next h so.left)
