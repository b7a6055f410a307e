-- The canonical text of a module spells the tree of the module.
use Rattle.std.proofs.Common.{◌≡◌, ◌≤◌, ℕ, zero, suc, List, [], ◌∷◌, map, Ok, refl, sym, ap, subst, ◌∙◌, arith}
use Rattle.ir_types.specs.Program.{Program}
use Rattle.ir_types.specs.WellFormed.{IsWellFormed}
use Rattle.ir_types.specs.declared.span.Span.{Span}
use Rattle.ir_lexer.specs.Lexeme.{Lexeme}
use Rattle.ir_lexer.specs.Texts.{Bare, Inked, bare, IsParted, LexesBack}
use Rattle.ir_lexer.specs.Tokens.{tokens_of, IsOrderedFrom}
use Rattle.grammar.specs.Grammar.{SpellsAll}
use Rattle.grammar.proofs.Rows.{read_is}
use Rattle.ir_parser.specs.Module.{module_text}
use Rattle.printed_trees.specs.Printed.{SpellsTree}
use Rattle.printed_trees.proofs.Blocks.{text_is}
use Rattle.printed_trees.proofs.Facts.{put_module}
use Rattle.printed_trees.proofs.Parted.{script_parted}
use Rattle.printed_trees.proofs.Placed.{placed}
use Rattle.printed_trees.proofs.ReadParts.{module_read}
use Rattle.printed_trees.proofs.Scripts.{script_of}

-- a first place, and others
abbrev shift : Span → (ℕ → Span) → ℕ → Span
shift first others zero = first
shift first others (suc n) = others n

-- tokens in order are those of a script at ascending places, from an offset on
record IsSpread (from : ℕ) (ts : List Lexeme) (is : List Inked) : Type 0 where
  spans : ℕ → Span
  are : ts ≡ placed spans is
  ascends : (i j : ℕ) → i ≤ j → (spans i).start ≤ (spans j).start
  above : from ≤ (spans 0).start

heads_are : (a b : Bare) (xs ys : List Bare) → a ∷ xs ≡ b ∷ ys → (a ≡ b) × (xs ≡ ys)
heads_are a b xs ys e = (cc, cc)

lexeme_at : Bare → Span → Lexeme
lexeme_at b span = record { kind = b.kind; text = b.text; span = span }

cons_is : {a b : Lexeme} {xs ys : List Lexeme} → a ≡ b → xs ≡ ys → a ∷ xs ≡ b ∷ ys
cons_is e f = cc

shifted_ascends : (first : Span) (others : ℕ → Span) → first.start ≤ (others 0).start → ((i j : ℕ) → i ≤ j → (others i).start ≤ (others j).start) → (i j : ℕ) → i ≤ j → (shift first others i).start ≤ (shift first others j).start
shifted_ascends first others le up zero zero h = omega arith
shifted_ascends first others le up zero (suc j) h = let l = up 0 j (omega arith) in omega (arith, le)
shifted_ascends first others le up (suc i) zero h = absurd (omega arith)
shifted_ascends first others le up (suc i) (suc j) h = up i j (omega arith)

spread : (from : ℕ) (ts : List Lexeme) (is : List Inked) → map bare ts ≡ map (λ (i : Inked). i.0) is → IsOrderedFrom from ts → IsSpread from ts is
unfolding lexeme_at
spread from [] [] e ordered = record { spans = λ n. record { line = 0; start = from; end = from }; are = refl; ascends = λ i j h. omega arith; above = omega arith }
spread from [] (i ∷ is) e ordered = absurd cc
spread from (t ∷ ts) [] e ordered = absurd cc
spread from (t ∷ ts) (i ∷ is) e ordered =
    let h = heads_are _ _ _ _ e in
    let more = spread t.span.end ts is h.1 ordered.2 in
    record {
      spans = shift t.span more.spans;
      are = cons_is (ap (λ (b : Bare). lexeme_at b t.span) h.0) more.are;
      ascends = shifted_ascends t.span more.spans (omega (arith, ordered.1, more.above)) more.ascends;
      above = ordered.0;
    }

pub spells_tree : ((script : List Inked) → IsParted script → LexesBack script) → ((source : List ℕ) (tokens : List Lexeme) → tokens_of source ≡ Ok tokens → IsOrderedFrom 0 tokens) → (m : Program) → IsWellFormed m → SpellsTree m
spells_tree lexes ordered m fits =
    let put = put_module m fits in
    let lexed = lexes (script_of m) (script_parted m put) in
    let spread = spread 0 lexed.0 (script_of m) lexed.2 (ordered _ lexed.0 lexed.1) in
    let one = module_read m put spread.spans (record { ascends = spread.ascends }) in
    let P : List Lexeme → Type 0 = λ ts. SpellsAll module_text ts one.tree in
    record {
      tokens = lexed.0;
      lexed = ap tokens_of (text_is m put) ∙ lexed.1;
      tree = one.tree;
      spelled = subst P (sym spread.are) (read_is module_text (placed spread.spans (script_of m)) (Ok (one.tree, [])) one.reads);
      is = one.holds;
    }
