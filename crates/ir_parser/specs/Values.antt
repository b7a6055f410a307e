-- Types, values, variables and what is dropped:
--   type = "i1" | "i8" | "i16" | "i32" | "i64"        ret = type | "void"
--   cvalue = NUMBER | "true" | "false"                gvalue = cvalue | "undef" | "poison"
--   value = LOCAL | cvalue | "undef" | "poison"       addr = LOCAL | GLOBAL
--   attach = "," ( "align" NUMBER | BANG BANG )
use Rattle.std.specs.Prelude.{ℕ, true, false, List, [], ◌∷◌, codes}
use Rattle.mc_num.specs.declared.op.Width.{Width}
use Rattle.mc_num.specs.declared.op.Width.TheVariants.{I1, I8, I16, I32, I64}
use Rattle.ir_types.specs.declared.span.At.{At}
use Rattle.ir_types.specs.declared.name.Name.{Name}
use Rattle.ir_types.specs.declared.tree.Ty.{Ty}
use Rattle.ir_types.specs.declared.tree.Ty.TheVariants.{Int, Void}
use Rattle.ir_types.specs.declared.tree.Address.{Address}
use Rattle.ir_types.specs.declared.tree.Address.TheVariants as addresses
use Rattle.ir_types.specs.declared.tree.RawValue.{RawValue}
use Rattle.ir_types.specs.declared.tree.RawValue.TheVariants as values
use Rattle.ir_lexer.specs.declared.token.TokenKind.TheVariants as kinds
use Rattle.grammar.specs.Grammar.{token, repeated, gives}
use Rattle.ir_parser.specs.Words.{local_name, literal}
use Rattle.ir_parser.specs.Tokens.{G, Table, ◌~◌, ◌▸◌, ◌∣◌, dropped, a, word, one_of, comma, at, local, global, one_from, is_group}

-- ---- types

abbrev pub widths : Table Width
widths = (codes "i1", I1) ∷ (codes "i8", I8) ∷ (codes "i16", I16) ∷ (codes "i32", I32) ∷ (codes "i64", I64) ∷ []

unfoldable pub int_type : G (At Width)
int_type = one_from widths I1

-- what a function gives
unfoldable pub ret : G Ty
ret = gives (λ w. Int w.item) int_type ∣ gives (λ t. Void) (word (codes "void"))

-- ---- values

unfoldable pub cvalue : G (At RawValue)
cvalue =
    gives (λ t. at (literal t.text) t) (a kinds.Number)
    ∣ gives (λ t. at (values.Bool true) t) (word (codes "true"))
    ∣ gives (λ t. at (values.Bool false) t) (word (codes "false"))

-- the first value of a global
unfoldable pub gvalue : G (At RawValue)
gvalue = cvalue ∣ gives (λ t. at values.Zero t) (one_of (codes "undef" ∷ codes "poison" ∷ []))

unfoldable pub value : G (At RawValue)
value = gives (λ t. at (values.Local (local_name t.text)) t) (a kinds.Local) ∣ gvalue

unfoldable pub addr : G (At Address)
addr =
    gives (λ n. record { item = addresses.Local n.item; span = n.span }) local
    ∣ gives (λ n. record { item = addresses.Global n.item; span = n.span }) global

-- a block that is gone to
unfoldable pub target : G (At Name)
target = word (codes "label") ▸ local

-- ---- what is read and dropped

abbrev pub linkage_words : List (List ℕ)
linkage_words = codes "dso_local" ∷ codes "internal" ∷ codes "private" ∷ codes "hidden" ∷ codes "protected" ∷ codes "ccc" ∷ []

abbrev pub attribute_words : List (List ℕ)
attribute_words = codes "noundef" ∷ codes "signext" ∷ codes "zeroext" ∷ []

abbrev pub extra_words : List (List ℕ)
extra_words =
    codes "unnamed_addr" ∷ codes "local_unnamed_addr" ∷ codes "nounwind" ∷ codes "noinline" ∷ codes "optnone"
    ∷ codes "uwtable" ∷ codes "mustprogress" ∷ codes "noreturn" ∷ codes "willreturn" ∷ codes "norecurse" ∷ []

abbrev pub global_words : List (List ℕ)
global_words =
    codes "dso_local" ∷ codes "internal" ∷ codes "private" ∷ codes "hidden" ∷ codes "protected"
    ∷ codes "unnamed_addr" ∷ codes "local_unnamed_addr" ∷ []

abbrev pub flag_words : List (List ℕ)
flag_words = codes "nuw" ∷ codes "nsw" ∷ codes "exact" ∷ codes "disjoint" ∷ codes "nneg" ∷ codes "samesign" ∷ []

-- any number of these words
abbrev pub any_of : List (List ℕ) → G (Unit {0})
any_of words = dropped (repeated (one_of words))

-- an alignment, or a note for a debugger
unfoldable pub detail : G (Unit {0})
detail = dropped (word (codes "align") ~ a kinds.Number) ∣ dropped (a kinds.Bang ~ a kinds.Bang)

unfoldable pub attach : G (Unit {0})
attach = comma ▸ detail

unfoldable pub attached : G (Unit {0})
attached = dropped (repeated attach)

-- what may stand behind the parameters or arguments
unfoldable pub extra : G (Unit {0})
extra = dropped (one_of extra_words) ∣ dropped (token is_group) ∣ detail

unfoldable pub extras : G (Unit {0})
extras = dropped (repeated extra)
