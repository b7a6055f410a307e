-- What holds of each tree of tokens that are spelled as their kinds say, phrase by phrase.
use Rattle.std.proofs.Common.{◌≡◌, ℕ, Bool, true, false, ℤ, pos, negsuc, ◌^◌, nat_lt, if◌then◌else◌, List, [], ◌∷◌, Option, Some, None, map, arith}
use Rattle.std.specs.Prelude.{All, IfSome}
use Rattle.std.specs.List.{AllByRecursion}
use Rattle.std.proofs.lemmas.List.Elements.{All-cons, recursion_from_All}
use Rattle.grammar.specs.Grammar.{SpellsAll}
use Rattle.grammar.proofs.Yields.{YieldsFrom, anything, of_kind, of_pair, of_gives, of_first, of_second, of_choice, of_optional, of_repeated, of_led}
use Rattle.ir_types.specs.Names.{IsNameText}
use Rattle.ir_types.specs.Written.{IsWritten, IsDefinable, IsResultType, IsLiteral, IsSpelledArgument, IsSpelledKind, IsSpelledInstr, IsSpelledCase, IsSpelledTerm, IsSpelledBlock, IsSpelledFunction, IsSpelledGlobal, IsSpelledTree}
use Rattle.ir_types.specs.declared.span.At.{At}
use Rattle.ir_types.specs.declared.span.Span.{Span}
use Rattle.ir_types.specs.declared.name.Name.{Name}
use Rattle.ir_types.specs.declared.tree.Ty.{Ty}
use Rattle.ir_types.specs.declared.tree.RawValue.TheVariants as values
use Rattle.ir_types.specs.declared.tree.RawTerm.{RawTerm}
use Rattle.ir_types.specs.declared.tree.RawParam.{RawParam}
use Rattle.ir_types.specs.declared.tree.Raw.{Raw}
use Rattle.ir_lexer.specs.Lexeme.{Lexeme, lexeme}
use Rattle.ir_lexer.specs.Texts.{IsText}
use Rattle.ir_lexer.specs.declared.token.Token.{Token}
use Rattle.ir_lexer.specs.declared.token.TokenKind.TheVariants as kinds
use Rattle.ir_parser.specs.Words.{literal_of, number_of}
use Rattle.ir_parser.specs.Tokens.{is_kind, is_named_global, G, local, global, or_none}
use Rattle.ir_parser.specs.Values.{ret, cvalue, gvalue}
use Rattle.ir_parser.specs.Calls.{Worded, arg, next_arg, some_args, args, call, phi}
use Rattle.ir_parser.specs.Instrs.{alloca, load, binary, compare, convert, select, computing, giving, store, result_name, giving_instr, storing_instr, bare_instr, instr, instrs}
use Rattle.ir_parser.specs.Terms.{returned, branched, switch_case, cases, switched, bare_term, term, label, block, blocks}
use Rattle.ir_parser.specs.Module.{par, next_par, some_pars, pars, signature, declare, define, variable, part, parts_of, functions_of, globals_of, tree_of, module_text}
use Rattle.ir_parser.specs.declared.modules.Member.{Member}
use Rattle.ir_parser.specs.declared.modules.Member.TheVariants.{Function, Global}
use Rattle.ir_parser.proofs.Spelt.{local_token, label_token, global_token}

abbrev IsSpelledToken : Lexeme → Type 0
IsSpelledToken t = IsText t.kind t.text

abbrev Spelled : {A : Type 0} → G A → (A → Type 0) → Type 0
Spelled g P = YieldsFrom IsSpelledToken g P

-- ---- names and values

abbrev IsWrittenName : At Name → Type 0
IsWrittenName n = IsWritten n.item

local_spelled : Spelled local IsWrittenName
local_spelled = of_gives _ _ (λ t. (is_kind kinds.Local t ≡ true) × IsSpelledToken t) _ (λ t p. local_token t.kind t.text p.0 p.1) (of_kind _)

global_spelled : Spelled global (λ n. IsNameText n.item)
global_spelled = of_gives _ _ (λ t. (is_named_global t ≡ true) × IsSpelledToken t) _ (λ t p. global_token t.kind t.text p.0 p.1) (of_kind _)

ret_spelled : Spelled ret IsResultType
unfolding ret
ret_spelled = of_choice _ _ _ (of_gives _ _ (λ _. Unit {0}) _ (λ x p. tt) (anything _)) (of_gives _ _ (λ _. Unit {0}) _ (λ x p. tt) (anything _))

number_or_wide : (b : Bool) (z : ℤ) → IsLiteral (if b then values.Number z else values.Wide)
number_or_wide true z = tt
number_or_wide false z = tt

is_literal : (z : ℤ) → IsLiteral (literal_of z)
is_literal (pos n) = number_or_wide (nat_lt n (2 ^ 127)) (pos n)
is_literal (negsuc n) = number_or_wide (nat_lt n (2 ^ 127)) (negsuc n)

cvalue_spelled : Spelled cvalue (λ v. IsLiteral v.item)
unfolding cvalue
cvalue_spelled = of_choice _ _ _ (of_gives _ _ (λ _. Unit {0}) _ (λ t p. is_literal (number_of t.text)) (anything _))
    (of_choice _ _ _ (of_gives _ _ (λ _. Unit {0}) _ (λ t p. tt) (anything _)) (of_gives _ _ (λ _. Unit {0}) _ (λ t p. tt) (anything _)))

gvalue_spelled : Spelled gvalue (λ v. IsLiteral v.item)
unfolding gvalue
gvalue_spelled = of_choice _ _ _ cvalue_spelled (of_gives _ _ (λ _. Unit {0}) _ (λ t p. tt) (anything _))

-- ---- calls

nothing : {A : Type 0} (P : A → Type 0) → All P []
nothing P = λ k d l. absurd (omega arith)

all_or_none : {A : Type 0} (P : A → Type 0) (o : Option (List A)) → IfSome o (All P) → All P (or_none o)
all_or_none P None p = nothing P
all_or_none P (Some xs) p = p

arg_spelled : Spelled arg IsSpelledArgument
unfolding arg
arg_spelled = of_choice _ _ _ (of_gives _ _ (λ _. Unit {0}) _ (λ x p. tt) (anything _)) (of_gives _ _ (λ _. Unit {0}) _ (λ x p. tt) (anything _))

next_arg_spelled : Spelled next_arg IsSpelledArgument
unfolding next_arg
next_arg_spelled = of_second _ _ _ arg_spelled

some_args_spelled : Spelled some_args (All IsSpelledArgument)
unfolding some_args
some_args_spelled = of_led _ _ IsSpelledArgument arg_spelled next_arg_spelled

args_spelled : Spelled args (All IsSpelledArgument)
unfolding args
args_spelled = of_gives _ _ (λ o. IfSome o (All IsSpelledArgument)) _ (all_or_none IsSpelledArgument) (of_optional _ _ some_args_spelled)

abbrev IsSpelledWorded : Worded → Type 0
IsSpelledWorded w = IsSpelledKind w.1

call_spelled : Spelled call IsSpelledWorded
unfolding call
call_spelled = of_gives _ _ (λ x. Unit {0} × (IsResultType x.1.0 × (Unit {0} × All IsSpelledArgument x.1.1.1))) _ (λ x p. (p.1.0, p.1.1.1))
    (of_pair _ _ (λ _. Unit {0}) (λ y. IsResultType y.0 × (Unit {0} × All IsSpelledArgument y.1.1)) (anything _)
    (of_second _ _ _ (of_pair _ _ IsResultType (λ z. Unit {0} × All IsSpelledArgument z.1) ret_spelled
    (of_pair _ _ (λ _. Unit {0}) (All IsSpelledArgument) (anything _) (of_second _ _ _ (of_first _ _ _ args_spelled))))))

-- ---- instructions

phi_spelled : Spelled phi IsSpelledWorded
unfolding phi
phi_spelled = of_gives _ _ (λ _. Unit {0}) _ (λ x p. tt) (anything _)

computing_spelled : Spelled computing IsSpelledWorded
unfolding computing binary compare convert select
computing_spelled = of_choice _ _ _ (of_gives _ _ (λ _. Unit {0}) _ (λ x p. tt) (anything _)) (of_choice _ _ _ (of_gives _ _ (λ _. Unit {0}) _ (λ x p. tt) (anything _))
    (of_choice _ _ _ (of_gives _ _ (λ _. Unit {0}) _ (λ x p. tt) (anything _)) (of_gives _ _ (λ _. Unit {0}) _ (λ x p. tt) (anything _))))

giving_spelled : Spelled giving IsSpelledWorded
unfolding giving alloca load
giving_spelled = of_choice _ _ _ (of_gives _ _ (λ _. Unit {0}) _ (λ x p. tt) (anything _)) (of_choice _ _ _ (of_gives _ _ (λ _. Unit {0}) _ (λ x p. tt) (anything _))
    (of_choice _ _ _ computing_spelled (of_choice _ _ _ call_spelled phi_spelled)))

store_spelled : Spelled store IsSpelledWorded
unfolding store
store_spelled = of_gives _ _ (λ _. Unit {0}) _ (λ x p. tt) (anything _)

result_name_spelled : Spelled result_name IsDefinable
unfolding result_name
result_name_spelled = of_optional _ _ (of_first _ _ _ local_spelled)

giving_instr_spelled : Spelled giving_instr IsSpelledInstr
unfolding giving_instr
giving_instr_spelled = of_gives _ _ (λ x. IsDefinable x.0 × IsSpelledWorded x.1) _ (λ x p. record { result = p.0; kind = p.1 }) (of_pair _ _ IsDefinable IsSpelledWorded result_name_spelled giving_spelled)

storing_instr_spelled : Spelled storing_instr IsSpelledInstr
unfolding storing_instr
storing_instr_spelled = of_gives _ _ IsSpelledWorded _ (λ x p. record { result = tt; kind = p }) store_spelled

instrs_spelled : Spelled instrs (All IsSpelledInstr)
unfolding instrs instr bare_instr
instrs_spelled = of_repeated _ _ (of_first _ _ _ (of_choice _ _ _ giving_instr_spelled storing_instr_spelled))

-- ---- terminators and blocks

returned_spelled : Spelled returned IsSpelledTerm
unfolding returned
returned_spelled = of_choice _ _ _ (of_gives _ _ (λ _. Unit {0}) _ (λ x p. tt) (anything _)) (of_gives _ _ (λ _. Unit {0}) _ (λ x p. tt) (anything _))

branched_spelled : Spelled branched IsSpelledTerm
unfolding branched
branched_spelled = of_choice _ _ _ (of_gives _ _ (λ _. Unit {0}) _ (λ x p. tt) (anything _)) (of_gives _ _ (λ _. Unit {0}) _ (λ x p. tt) (anything _))

case_spelled : Spelled switch_case IsSpelledCase
unfolding switch_case
case_spelled = of_gives _ _ (λ x. Unit {0} × (IsLiteral x.1.0.item × Unit {0})) _ (λ x p. p.1.0)
    (of_pair _ _ (λ _. Unit {0}) (λ y. IsLiteral y.0.item × Unit {0}) (anything _) (of_pair _ _ (λ v. IsLiteral v.item) (λ _. Unit {0}) cvalue_spelled (anything _)))

cases_spelled : Spelled cases (All IsSpelledCase)
unfolding cases
cases_spelled = of_repeated _ _ case_spelled

switched_spelled : Spelled switched IsSpelledTerm
unfolding switched
switched_spelled = of_gives _ _ (λ x. Unit {0} × (Unit {0} × (Unit {0} × All IsSpelledCase x.1.1.1))) _ (λ x p. p.1.1.1)
    (of_pair _ _ (λ _. Unit {0}) (λ y. Unit {0} × (Unit {0} × All IsSpelledCase y.1.1)) (anything _)
    (of_pair _ _ (λ _. Unit {0}) (λ z. Unit {0} × All IsSpelledCase z.1) (anything _)
    (of_second _ _ _ (of_pair _ _ (λ _. Unit {0}) (All IsSpelledCase) (anything _) (of_second _ _ _ (of_first _ _ _ cases_spelled))))))

abbrev IsSpelledTermed : Span × RawTerm → Type 0
IsSpelledTermed x = IsSpelledTerm x.1

term_spelled : Spelled term IsSpelledTermed
unfolding term bare_term
term_spelled = of_first _ _ _
    (of_choice _ _ _ (of_gives _ _ (λ x. Unit {0} × IsSpelledTerm x.1) _ (λ x p. p.1) (of_pair _ _ (λ _. Unit {0}) IsSpelledTerm (anything _) returned_spelled))
    (of_choice _ _ _ (of_gives _ _ (λ x. Unit {0} × IsSpelledTerm x.1) _ (λ x p. p.1) (of_pair _ _ (λ _. Unit {0}) IsSpelledTerm (anything _) branched_spelled))
    (of_choice _ _ _ (of_gives _ _ (λ x. Unit {0} × IsSpelledTerm x.1) _ (λ x p. p.1) (of_pair _ _ (λ _. Unit {0}) IsSpelledTerm (anything _) switched_spelled))
    (of_gives _ _ (λ _. Unit {0}) _ (λ x p. tt) (anything _)))))

label_spelled : Spelled label IsDefinable
unfolding label
label_spelled = of_optional _ _ (of_gives _ _ (λ t. (is_kind kinds.Label t ≡ true) × IsSpelledToken t) _ (λ t p. label_token t.kind t.text p.0 p.1) (of_kind _))

block_spelled : Spelled block IsSpelledBlock
unfolding block
block_spelled = of_gives _ _ (λ x. IsDefinable x.0 × (All IsSpelledInstr x.1.0 × IsSpelledTermed x.1.1)) _ (λ x p. record { label = p.0; instrs = p.1.0; term = p.1.1 })
    (of_pair _ _ IsDefinable (λ y. All IsSpelledInstr y.0 × IsSpelledTermed y.1) label_spelled
    (of_pair _ _ (All IsSpelledInstr) IsSpelledTermed instrs_spelled term_spelled))

blocks_spelled : Spelled blocks (All IsSpelledBlock)
unfolding blocks
blocks_spelled = of_led _ _ IsSpelledBlock block_spelled block_spelled

-- ---- functions and globals

abbrev IsSpelledParam : RawParam → Type 0
IsSpelledParam p = IsDefinable p.name

par_spelled : Spelled par IsSpelledParam
unfolding par
par_spelled = of_gives _ _ (λ x. Unit {0} × IsDefinable x.1) _ (λ x p. p.1) (of_pair _ _ (λ _. Unit {0}) IsDefinable (anything _) (of_second _ _ _ (of_optional _ _ local_spelled)))

next_par_spelled : Spelled next_par IsSpelledParam
unfolding next_par
next_par_spelled = of_second _ _ _ par_spelled

some_pars_spelled : Spelled some_pars (All IsSpelledParam)
unfolding some_pars
some_pars_spelled = of_led _ _ IsSpelledParam par_spelled next_par_spelled

pars_spelled : Spelled pars (All IsSpelledParam)
unfolding pars
pars_spelled = of_gives _ _ (λ o. IfSome o (All IsSpelledParam)) _ (all_or_none IsSpelledParam) (of_optional _ _ some_pars_spelled)

abbrev IsSpelledSignature : Ty × (At (List ℕ) × List RawParam) → Type 0
IsSpelledSignature s = IsResultType s.0 × (IsNameText s.1.0.item × All IsSpelledParam s.1.1)

signature_spelled : Spelled signature IsSpelledSignature
unfolding signature
signature_spelled = of_second _ _ _ (of_second _ _ _ (of_pair _ _ IsResultType (λ y. IsNameText y.0.item × All IsSpelledParam y.1) ret_spelled
    (of_pair _ _ (λ n. IsNameText n.item) (All IsSpelledParam) global_spelled (of_second _ _ _ (of_first _ _ _ pars_spelled)))))

declare_spelled : Spelled declare IsSpelledFunction
unfolding declare
declare_spelled = of_gives _ _ IsSpelledSignature _ (λ s p. record { named = p.1.0; ret = p.0; params = p.1.1; blocks = nothing IsSpelledBlock }) (of_second _ _ _ signature_spelled)

define_spelled : Spelled define IsSpelledFunction
unfolding define
define_spelled = of_gives _ _ (λ x. IsSpelledSignature x.0 × All IsSpelledBlock x.1) _ (λ x p. record { named = p.0.1.0; ret = p.0.0; params = p.0.1.1; blocks = p.1 })
    (of_second _ _ _ (of_pair _ _ IsSpelledSignature (All IsSpelledBlock) signature_spelled (of_second _ _ _ (of_first _ _ _ blocks_spelled))))

variable_spelled : Spelled variable IsSpelledGlobal
unfolding variable
variable_spelled = of_gives _ _ (λ x. IsNameText x.0.item × (Unit {0} × IsLiteral x.1.1.item)) _ (λ x p. record { named = p.0; value = p.1.1 })
    (of_pair _ _ (λ n. IsNameText n.item) (λ y. Unit {0} × IsLiteral y.1.item) global_spelled
    (of_second _ _ _ (of_second _ _ _ (of_second _ _ _ (of_pair _ _ (λ _. Unit {0}) (λ v. IsLiteral v.item) (anything _) (of_first _ _ _ gvalue_spelled))))))

-- ---- whole texts

abbrev IsSpelledMember : Member → Type 0
IsSpelledMember (Function f) = IsSpelledFunction f
IsSpelledMember (Global g) = IsSpelledGlobal g

part_spelled : Spelled part IsSpelledMember
unfolding part
part_spelled = of_choice _ _ _ (of_gives _ _ IsSpelledFunction _ (λ f p. p) declare_spelled) (of_choice _ _ _ (of_gives _ _ IsSpelledFunction _ (λ f p. p) define_spelled) (of_gives _ _ IsSpelledGlobal _ (λ g p. p) variable_spelled))

functions_spelled : (ps : List Member) → AllByRecursion IsSpelledMember ps → All IsSpelledFunction (functions_of ps)
functions_spelled [] all = nothing IsSpelledFunction
functions_spelled (Function f ∷ ps) all = All-cons IsSpelledFunction f (functions_of ps) all.0 (functions_spelled ps all.1)
functions_spelled (Global g ∷ ps) all = functions_spelled ps all.1

globals_spelled : (ps : List Member) → AllByRecursion IsSpelledMember ps → All IsSpelledGlobal (globals_of ps)
globals_spelled [] all = nothing IsSpelledGlobal
globals_spelled (Function f ∷ ps) all = globals_spelled ps all.1
globals_spelled (Global g ∷ ps) all = All-cons IsSpelledGlobal g (globals_of ps) all.0 (globals_spelled ps all.1)

tree_spelled : (ps : List Member) → All IsSpelledMember ps → IsSpelledTree (tree_of ps)
tree_spelled ps all = let rec : AllByRecursion IsSpelledMember ps = recursion_from_All IsSpelledMember ps all in record { functions = functions_spelled ps rec; globals = globals_spelled ps rec }

module_spelled : Spelled module_text IsSpelledTree
unfolding module_text parts_of
module_spelled = of_gives _ _ (All IsSpelledMember) _ tree_spelled (of_repeated _ _ part_spelled)

-- the tree of tokens where they lie
pub spelled_tree : (tokens : List Token) (tree : Raw) → SpellsAll module_text (map lexeme tokens) tree → All (λ t. IsText t.kind t.text.now) tokens → IsSpelledTree tree
spelled_tree tokens tree s all = module_spelled.holds (map lexeme tokens) tree [] (lexemes tokens (recursion_from_All (λ t. IsText t.kind t.text.now) tokens all)) s
  where
    lexemes : (ts : List Token) → AllByRecursion (λ t. IsText t.kind t.text.now) ts → AllByRecursion IsSpelledToken (map lexeme ts)
    lexemes [] h = tt
    lexemes (t ∷ ts) h = (h.0, lexemes ts h.1)
