-- A tree has no more items than it takes tokens, phrase by phrase.
use Rattle.std.proofs.Common.{◌≡◌, ◌≤◌, ◌+◌, ℕ, List, [], ◌∷◌, Option, Some, None, length, refl, arith}
use Rattle.std.specs.Prelude.{sum_by}
use Rattle.std.proofs.lemmas.List.Sums.{sum_by-cons}
use Rattle.grammar.specs.Grammar.{SpellsAll}
use Rattle.grammar.proofs.Yields.{Takes, none, one, both, made, first_of, second_of, behind, either_of, each, some, if_some, maybe, led_by, counted}
use Rattle.ir_types.specs.Size.{kind_items, term_items, block_items, function_items, items}
use Rattle.ir_types.specs.declared.span.Span.{Span}
use Rattle.ir_types.specs.declared.tree.RawInstr.{RawInstr}
use Rattle.ir_types.specs.declared.tree.RawTerm.{RawTerm}
use Rattle.ir_types.specs.declared.tree.RawBlock.{RawBlock}
use Rattle.ir_types.specs.declared.tree.RawFunction.{RawFunction}
use Rattle.ir_types.specs.declared.tree.Raw.{Raw}
use Rattle.ir_lexer.specs.Lexeme.{Lexeme}
use Rattle.ir_parser.specs.Tokens.{G, or_none}
use Rattle.ir_parser.specs.Values.{int_type}
use Rattle.ir_parser.specs.Calls.{Worded, arg, next_arg, some_args, args, call_word, call, incoming, next_incoming, incomings, phi}
use Rattle.ir_parser.specs.Instrs.{binop, castop, alloca, load, binary, compare, convert, select, computing, giving, store, giving_instr, storing_instr, bare_instr, instr, instrs}
use Rattle.ir_parser.specs.Terms.{returned, branched, switch_case, cases, switched, bare_term, term, block, blocks}
use Rattle.ir_parser.specs.Module.{par, next_par, some_pars, pars, signature, declare, define, variable, part, parts_of, functions_of, tree_of, module_text}
use Rattle.ir_parser.specs.declared.modules.Member.{Member}
use Rattle.ir_parser.specs.declared.modules.Member.TheVariants.{Function, Global}

-- ---- calls and phis

arg_takes : Takes arg (λ _. 1)
unfolding arg int_type
arg_takes = some _ refl

next_arg_takes : Takes next_arg (λ _. 1)
unfolding next_arg
next_arg_takes = some _ refl

some_args_takes : Takes some_args length
unfolding some_args
some_args_takes = counted _ (led_by _ _ (λ _. 1) arg_takes next_arg_takes)

none_fits : {A : Type 0} (o : Option (List A)) → length (or_none o) ≤ if_some length o
none_fits None = omega arith
none_fits (Some xs) = omega arith

args_takes : Takes args length
unfolding args
args_takes = made _ _ (if_some length) _ none_fits (maybe _ length some_args_takes)

-- the instruction itself, and the items that it has
abbrev worded_size : Worded → ℕ
worded_size w = 1 + kind_items w.1

call_takes : Takes call worded_size
unfolding call call_word
call_takes = made _ _ (λ x. 1 + (0 + (0 + length x.1.1.1))) _ (λ x. omega arith)
    (both _ _ (λ _. 1) (λ y. 0 + (0 + length y.1.1)) (some _ refl)
    (second_of _ _ _ (both _ _ (λ _. 0) (λ z. 0 + length z.1) (none _)
    (both _ _ (λ _. 0) length (none _) (second_of _ _ _ (first_of _ _ _ args_takes))))))

incoming_takes : Takes incoming (λ _. 1)
unfolding incoming
incoming_takes = some _ refl

next_incoming_takes : Takes next_incoming (λ _. 1)
unfolding next_incoming
next_incoming_takes = some _ refl

incomings_takes : Takes incomings length
unfolding incomings
incomings_takes = counted _ (led_by _ _ (λ _. 1) incoming_takes next_incoming_takes)

phi_takes : Takes phi worded_size
unfolding phi
phi_takes = made _ _ (λ x. 1 + (0 + length x.1.1)) _ (λ x. omega arith)
    (both _ _ (λ _. 1) (λ y. 0 + length y.1) (one _) (both _ _ (λ _. 0) length (none _) incomings_takes))

-- ---- instructions

computing_takes : Takes computing worded_size
unfolding computing binary compare convert select binop castop
computing_takes = either_of _ _ _ (made _ _ (λ _. 1) _ (λ x. omega arith) (some _ refl)) (either_of _ _ _ (made _ _ (λ _. 1) _ (λ x. omega arith) (some _ refl))
    (either_of _ _ _ (made _ _ (λ _. 1) _ (λ x. omega arith) (some _ refl)) (made _ _ (λ _. 1) _ (λ x. omega arith) (some _ refl))))

giving_takes : Takes giving worded_size
unfolding giving alloca load
giving_takes = either_of _ _ _ (made _ _ (λ _. 1) _ (λ x. omega arith) (some _ refl)) (either_of _ _ _ (made _ _ (λ _. 1) _ (λ x. omega arith) (some _ refl))
    (either_of _ _ _ computing_takes (either_of _ _ _ call_takes phi_takes)))

store_takes : Takes store worded_size
unfolding store
store_takes = made _ _ (λ _. 1) _ (λ x. omega arith) (some _ refl)

abbrev instr_items : RawInstr → ℕ
instr_items x = kind_items x.kind

abbrev instr_size : RawInstr → ℕ
instr_size x = 1 + kind_items x.kind

giving_instr_takes : Takes giving_instr instr_size
unfolding giving_instr
giving_instr_takes = made _ _ (λ x. 0 + worded_size x.1) _ (λ x. omega arith) (both _ _ (λ _. 0) worded_size (none _) giving_takes)

storing_instr_takes : Takes storing_instr instr_size
unfolding storing_instr
storing_instr_takes = made _ _ worded_size _ (λ x. omega arith) store_takes

instrs_takes : Takes instrs (sum_by instr_size)
unfolding instrs instr bare_instr
instrs_takes = each _ _ (first_of _ _ _ (either_of _ _ _ giving_instr_takes storing_instr_takes))

-- each item, and what the items have
one_more_each : {A : Type 0} (n : A → ℕ) (xs : List A) → sum_by (λ x. 1 + n x) xs ≡ length xs + sum_by n xs
one_more_each n [] = refl
one_more_each {A} n (x ∷ xs) = omega (arith, sum_by-cons (λ (y : A). 1 + n y) x xs, sum_by-cons n x xs, one_more_each n xs)

-- ---- terminators and blocks

returned_takes : Takes returned term_items
unfolding returned
returned_takes = either_of _ _ _ (made _ _ (λ _. 0) _ (λ x. omega arith) (none _)) (made _ _ (λ _. 0) _ (λ x. omega arith) (none _))

branched_takes : Takes branched term_items
unfolding branched
branched_takes = either_of _ _ _ (made _ _ (λ _. 0) _ (λ x. omega arith) (none _)) (made _ _ (λ _. 0) _ (λ x. omega arith) (none _))

case_takes : Takes switch_case (λ _. 1)
unfolding switch_case int_type
case_takes = some _ refl

cases_takes : Takes cases length
unfolding cases
cases_takes = counted _ (each _ _ case_takes)

switched_takes : Takes switched term_items
unfolding switched
switched_takes = made _ _ (λ x. 0 + (0 + (0 + length x.1.1.1))) _ (λ x. omega arith)
    (both _ _ (λ _. 0) (λ y. 0 + (0 + length y.1.1)) (none _)
    (both _ _ (λ _. 0) (λ z. 0 + length z.1) (none _)
    (second_of _ _ _ (both _ _ (λ _. 0) length (none _) (second_of _ _ _ (first_of _ _ _ cases_takes))))))

abbrev term_size : Span × RawTerm → ℕ
term_size x = 1 + term_items x.1

term_takes : Takes term term_size
unfolding term bare_term
term_takes = first_of _ _ _
    (either_of _ _ _ (made _ _ (λ x. 1 + term_items x.1) _ (λ x. omega arith) (both _ _ (λ _. 1) term_items (one _) returned_takes))
    (either_of _ _ _ (made _ _ (λ x. 1 + term_items x.1) _ (λ x. omega arith) (both _ _ (λ _. 1) term_items (one _) branched_takes))
    (either_of _ _ _ (made _ _ (λ x. 1 + term_items x.1) _ (λ x. omega arith) (both _ _ (λ _. 1) term_items (one _) switched_takes))
    (made _ _ (λ _. 1) _ (λ x. omega arith) (one _)))))

abbrev block_size : RawBlock → ℕ
block_size b = 1 + block_items b

block_takes : Takes block block_size
unfolding block
block_takes = made _ _ (λ x. 0 + (sum_by instr_size x.1.0 + term_size x.1.1)) _ (λ x. omega (arith, one_more_each instr_items x.1.0))
    (both _ _ (λ _. 0) (λ y. sum_by instr_size y.0 + term_size y.1) (none _) (both _ _ (sum_by instr_size) term_size instrs_takes term_takes))

blocks_takes : Takes blocks (sum_by block_size)
unfolding blocks
blocks_takes = led_by _ _ block_size block_takes block_takes

-- ---- functions and globals

par_takes : Takes par (λ _. 1)
unfolding par int_type
par_takes = some _ refl

next_par_takes : Takes next_par (λ _. 1)
unfolding next_par
next_par_takes = some _ refl

some_pars_takes : Takes some_pars length
unfolding some_pars
some_pars_takes = counted _ (led_by _ _ (λ _. 1) par_takes next_par_takes)

pars_takes : Takes pars length
unfolding pars
pars_takes = made _ _ (if_some length) _ none_fits (maybe _ length some_pars_takes)

fewer : {A : Type 0} (g : G A) (n m : A → ℕ) → ((x : A) → m x ≤ n x) → Takes g n → Takes g m
fewer g n m to p = record { bound = λ ts x rest s. let a = p.bound ts x rest s in let b = to x in omega arith }

signature_takes : Takes signature (λ s. length s.1.1)
unfolding signature
signature_takes = second_of _ _ _ (second_of _ _ _ (fewer _ (λ x. 0 + (0 + length x.1.1)) _ (λ x. omega arith)
    (both _ _ (λ _. 0) (λ y. 0 + length y.1) (none _) (both _ _ (λ _. 0) length (none _) (second_of _ _ _ (first_of _ _ _ pars_takes))))))

abbrev function_size : RawFunction → ℕ
function_size f = 1 + function_items f

declare_takes : Takes declare function_size
unfolding declare
declare_takes = made _ _ (λ s. 1 + length s.1.1) _ (λ s. omega arith) (behind _ _ _ signature_takes)

define_takes : Takes define function_size
unfolding define
define_takes = made _ _ (λ x. 1 + (length x.0.1.1 + sum_by block_size x.1)) _ (λ x. omega (arith, one_more_each block_items x.1))
    (behind _ _ _ (both _ _ (λ s. length s.1.1) (sum_by block_size) signature_takes (second_of _ _ _ (first_of _ _ _ blocks_takes))))

abbrev member_size : Member → ℕ
member_size (Function f) = function_size f
member_size (Global g) = 1

part_takes : Takes part member_size
unfolding part variable
part_takes = either_of _ _ _ (made _ _ function_size _ (λ f. omega arith) declare_takes) (either_of _ _ _ (made _ _ function_size _ (λ f. omega arith) define_takes) (made _ _ (λ _. 1) _ (λ g. omega arith) (some _ refl)))

-- ---- whole texts

tree_size : (ps : List Member) → items (tree_of ps) ≡ sum_by member_size ps
tree_size [] = refl
tree_size (Function f ∷ ps) = omega (arith, sum_by-cons member_size (Function f) ps, sum_by-cons function_items f (functions_of ps), tree_size ps)
tree_size (Global g ∷ ps) = omega (arith, sum_by-cons member_size (Global g) ps, tree_size ps)

module_takes : Takes module_text items
unfolding module_text parts_of
module_takes = made _ _ (sum_by member_size) _ (λ ps. omega (arith, tree_size ps)) (each _ _ part_takes)

pub few_items : (tokens : List Lexeme) (tree : Raw) → SpellsAll module_text tokens tree → items tree ≤ length tokens
few_items tokens tree s = let l = module_takes.bound tokens tree [] s in omega arith
