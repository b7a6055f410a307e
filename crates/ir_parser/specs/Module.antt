-- Whole texts:
--   module = { declare | define | global }
--   global = GLOBAL "=" {G} ( "global" | "constant" ) type gvalue { attach }
--   declare = "declare" {F} {A} ret GLOBAL "(" [ par { "," par } ] ")" {T}
--   define = "define" {F} {A} ret GLOBAL "(" [ par { "," par } ] ")" {T} "{" block { block } "}"
--   par = type {A} [ LOCAL ]
use Rattle.std.specs.Prelude.{ℕ, List, [], ◌∷◌, codes}
use Rattle.ir_types.specs.declared.span.At.{At}
use Rattle.ir_types.specs.declared.tree.Ty.{Ty}
use Rattle.ir_types.specs.declared.tree.RawParam.{RawParam}
use Rattle.ir_types.specs.declared.tree.RawBlock.{RawBlock}
use Rattle.ir_types.specs.declared.tree.RawFunction.{RawFunction}
use Rattle.ir_types.specs.declared.tree.RawGlobal.{RawGlobal}
use Rattle.ir_types.specs.declared.tree.Raw.{Raw}
use Rattle.grammar.specs.Grammar.{repeated, optional, gives}
use Rattle.ir_parser.specs.Tokens.{G, ◌~◌, ◌▸◌, ◌◂◌, ◌∣◌, word, one_of, mark, comma, local, global, led, or_none}
use Rattle.ir_parser.specs.Values.{int_type, ret, gvalue, linkage_words, attribute_words, global_words, any_of, attached, extras}
use Rattle.ir_parser.specs.Terms.{blocks}
use Rattle.ir_parser.specs.declared.modules.Member.{Member}
use Rattle.ir_parser.specs.declared.modules.Member.TheVariants as parts

unfoldable pub par : G RawParam
par = gives (λ x. record { width = x.0.item; name = x.1 }) (int_type ~ any_of attribute_words ▸ optional local)

-- a further parameter
unfoldable pub next_par : G RawParam
next_par = comma ▸ par

unfoldable pub some_pars : G (List RawParam)
some_pars = led par next_par

unfoldable pub pars : G (List RawParam)
pars = gives or_none (optional some_pars)

-- what a function gives, its name and its parameters
unfoldable pub signature : G (Ty × (At (List ℕ) × List RawParam))
signature = any_of linkage_words ▸ any_of attribute_words ▸ ret ~ global ~ mark (codes "(") ▸ pars ◂ mark (codes ")") ◂ extras

abbrev pub function_of : Ty × (At (List ℕ) × List RawParam) → List RawBlock → RawFunction
function_of s blocks = record { name = s.1.0; ret = s.0; params = s.1.1; blocks = blocks }

unfoldable pub declare : G RawFunction
declare = gives (λ s. function_of s []) (word (codes "declare") ▸ signature)

unfoldable pub define : G RawFunction
define = gives (λ x. function_of x.0 x.1) (word (codes "define") ▸ signature ~ mark (codes "{") ▸ blocks ◂ mark (codes "}"))

unfoldable pub variable : G RawGlobal
variable = gives (λ x. record { name = x.0; width = x.1.0.item; value = x.1.1 })
    (global ~ mark (codes "=") ▸ any_of global_words ▸ one_of (codes "global" ∷ codes "constant" ∷ []) ▸ int_type ~ gvalue ◂ attached)

-- a function or a global
unfoldable pub part : G Member
part = gives parts.Function declare ∣ gives parts.Function define ∣ gives parts.Global variable

unfoldable pub parts_of : G (List Member)
parts_of = repeated part

abbrev pub functions_of : List Member → List RawFunction
functions_of [] = []
functions_of (parts.Function f ∷ ps) = f ∷ functions_of ps
functions_of (parts.Global g ∷ ps) = functions_of ps

abbrev pub globals_of : List Member → List RawGlobal
globals_of [] = []
globals_of (parts.Function f ∷ ps) = globals_of ps
globals_of (parts.Global g ∷ ps) = g ∷ globals_of ps

-- functions and globals, each in text order
abbrev pub tree_of : List Member → Raw
tree_of ps = record { functions = functions_of ps; globals = globals_of ps }

-- a whole text
unfoldable pub module_text : G Raw
module_text = gives tree_of parts_of
