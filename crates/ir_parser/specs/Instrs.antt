-- Instructions:
--   instr = ( [ LOCAL "=" ] giving | "store" type value "," "ptr" addr ) { attach }
--   giving = "alloca" type
--          | "load" type "," "ptr" addr
--          | binop {flag} type value "," value
--          | "icmp" {flag} pred type value "," value
--          | cast {flag} type value "to" type
--          | "select" "i1" value "," type value "," type value
--          | call | phi
use Rattle.std.specs.Prelude.{List, [], ◌∷◌, Option, None, codes}
use Rattle.mc_num.specs.declared.op.Bin.{Bin}
use Rattle.mc_num.specs.declared.op.Bin.TheVariants as bin
use Rattle.mc_num.specs.declared.op.Pred.{Pred}
use Rattle.mc_num.specs.declared.op.Pred.TheVariants as pred
use Rattle.mc_num.specs.declared.op.Cast.{Cast}
use Rattle.mc_num.specs.declared.op.Cast.TheVariants as cast
use Rattle.ir_types.specs.declared.span.At.{At}
use Rattle.ir_types.specs.declared.name.Name.{Name}
use Rattle.ir_types.specs.declared.tree.RawKind.TheVariants as forms
use Rattle.ir_types.specs.declared.tree.RawInstr.{RawInstr}
use Rattle.grammar.specs.Grammar.{repeated, optional, gives}
use Rattle.ir_parser.specs.Tokens.{G, Table, ◌~◌, ◌▸◌, ◌◂◌, ◌∣◌, word, mark, comma, local, one_from}
use Rattle.ir_parser.specs.Values.{int_type, value, addr, flag_words, any_of, attached}
use Rattle.ir_parser.specs.Calls.{Worded, call, phi}

-- ---- words

abbrev pub bins : Table Bin
bins =
    (codes "add", bin.Add) ∷ (codes "sub", bin.Sub) ∷ (codes "mul", bin.Mul) ∷ (codes "udiv", bin.UDiv) ∷ (codes "sdiv", bin.SDiv)
    ∷ (codes "urem", bin.URem) ∷ (codes "srem", bin.SRem) ∷ (codes "shl", bin.Shl) ∷ (codes "lshr", bin.LShr)
    ∷ (codes "ashr", bin.AShr) ∷ (codes "and", bin.And) ∷ (codes "or", bin.Or) ∷ (codes "xor", bin.Xor) ∷ []

abbrev pub preds : Table Pred
preds =
    (codes "eq", pred.Eq) ∷ (codes "ne", pred.Ne) ∷ (codes "ugt", pred.Ugt) ∷ (codes "uge", pred.Uge) ∷ (codes "ult", pred.Ult)
    ∷ (codes "ule", pred.Ule) ∷ (codes "sgt", pred.Sgt) ∷ (codes "sge", pred.Sge) ∷ (codes "slt", pred.Slt) ∷ (codes "sle", pred.Sle) ∷ []

abbrev pub casts : Table Cast
casts = (codes "zext", cast.Zext) ∷ (codes "sext", cast.Sext) ∷ (codes "trunc", cast.Trunc) ∷ (codes "bitcast", cast.Bitcast) ∷ []

unfoldable pub binop : G (At Bin)
binop = one_from bins bin.Add

unfoldable pub predicate : G (At Pred)
predicate = one_from preds pred.Eq

unfoldable pub castop : G (At Cast)
castop = one_from casts cast.Bitcast

unfoldable pub flags : G (Unit {0})
flags = any_of flag_words

-- ---- what gives a result; the place is that of the instruction's own word

unfoldable pub alloca : G Worded
alloca = gives (λ x. (x.0.span, forms.Alloca x.1.item)) (word (codes "alloca") ~ int_type)

unfoldable pub load : G Worded
load = gives (λ x. (x.0.span, forms.Load x.1.0.item x.1.1)) (word (codes "load") ~ int_type ~ comma ▸ word (codes "ptr") ▸ addr)

unfoldable pub binary : G Worded
binary = gives (λ x. (x.0.span, forms.Bin x.0.item x.1.0.item x.1.1.0 x.1.1.1)) (binop ~ flags ▸ int_type ~ value ~ comma ▸ value)

unfoldable pub compare : G Worded
compare = gives (λ x. (x.0.span, forms.Icmp x.1.0.item x.1.1.0.item x.1.1.1.0 x.1.1.1.1))
    (word (codes "icmp") ~ flags ▸ predicate ~ int_type ~ value ~ comma ▸ value)

unfoldable pub convert : G Worded
convert = gives (λ x. (x.0.span, forms.Cast x.0.item x.1.0.item x.1.1.0 x.1.1.1)) (castop ~ flags ▸ int_type ~ value ~ word (codes "to") ▸ int_type)

unfoldable pub select : G Worded
select = gives (λ x. (x.0.span, forms.Select x.1.0 x.1.1.0.item x.1.1.1.0 x.1.1.1.1.0 x.1.1.1.1.1))
    (word (codes "select") ~ word (codes "i1") ▸ value ~ comma ▸ int_type ~ value ~ comma ▸ int_type ~ value)

-- the operations
unfoldable pub computing : G Worded
computing = binary ∣ compare ∣ convert ∣ select

unfoldable pub giving : G Worded
giving = alloca ∣ load ∣ computing ∣ call ∣ phi

-- ---- instructions

unfoldable pub store : G Worded
store = gives (λ x. (x.0.span, forms.Store x.1.0.item x.1.1.0 x.1.1.1)) (word (codes "store") ~ int_type ~ value ~ comma ▸ word (codes "ptr") ▸ addr)

abbrev pub with_result : Option (At Name) → Worded → RawInstr
with_result result x = record { result = result; word = x.0; kind = x.1 }

-- the name of a result
unfoldable pub result_name : G (Option (At Name))
result_name = optional (local ◂ mark (codes "="))

unfoldable pub giving_instr : G RawInstr
giving_instr = gives (λ x. with_result x.0 x.1) (result_name ~ giving)

unfoldable pub storing_instr : G RawInstr
storing_instr = gives (with_result None) store

unfoldable pub bare_instr : G RawInstr
bare_instr = giving_instr ∣ storing_instr

unfoldable pub instr : G RawInstr
instr = bare_instr ◂ attached

unfoldable pub instrs : G (List RawInstr)
instrs = repeated instr
