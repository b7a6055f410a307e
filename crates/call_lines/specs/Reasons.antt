-- What the checker's lines say: the place of a wrong part of a certificate, and why the answer is no.
use Rattle.std.specs.Prelude.{ℕ, List, [], ◌++◌, Option, Some, None, codes}
use Rattle.std.specs.Fmt.{decimal}
use Rattle.certificate.specs.declared.path.CertKey.{CertKey}
use Rattle.certificate.specs.declared.path.CertKey.TheVariants.{Whole, Version, Functions, Expressions, Flow, Inserted, Kept, Ranks}
use Rattle.certificate.specs.declared.path.CertPath.{CertPath}
use Rattle.checker.specs.declared.verdict.Reason.{Reason}
use Rattle.checker.specs.declared.verdict.Reason.TheVariants.{Shape, Missing, Incorrect, Unsafe, Capacity, Balance, Value, Rank, Places, Text}

-- ---- places

abbrev pub key_text : CertKey → List ℕ
key_text Whole = codes "/"
key_text Version = codes "/version"
key_text Functions = codes "/functions"
key_text Expressions = codes "/expressions"
key_text Flow = codes "/flow"
key_text Inserted = codes "/inserted"
key_text Kept = codes "/kept"
key_text Ranks = codes "/ranks"

-- a name and a number, if there is a number
abbrev pub under : List ℕ → Option ℕ → List ℕ
under name None = []
under name (Some n) = name ++ decimal n

-- as `/version` or `/functions/0/expressions/1/flow/3`
abbrev pub path_text : CertPath → List ℕ
path_text path = under (codes "/functions/") path.function ++ under (codes "/expressions/") path.expression ++ key_text path.key ++ under (codes "/") path.index

-- ---- reasons

-- a code with its name, a function and an expression
abbrev pub entry_text : (name : List ℕ) (function expression : ℕ) → List ℕ
entry_text name function expression = name ++ (codes " function " ++ (decimal function ++ (codes " expression " ++ decimal expression)))

-- and a number of what is named
abbrev pub number_text : (name : List ℕ) (function expression : ℕ) (what : List ℕ) (number : ℕ) → List ℕ
number_text name function expression what number =
    name ++ (codes " function " ++ (decimal function ++ (codes " expression " ++ (decimal expression ++ (what ++ decimal number)))))

abbrev pub value_text : (name : List ℕ) (function expression cost sum : ℕ) → List ℕ
value_text name function expression cost sum =
    name ++ (codes " function " ++ (decimal function ++ (codes " expression " ++ (decimal expression ++ (codes " cost " ++ (decimal cost ++ (codes " sum " ++ decimal sum)))))))

abbrev pub byte_text : (name : List ℕ) (byte : ℕ) → List ℕ
byte_text name byte = name ++ (codes " byte " ++ decimal byte)

abbrev pub reason_text : Reason → List ℕ
reason_text (Shape function expression) = entry_text (codes "N1 Shape") function expression
reason_text (Missing function expression) = entry_text (codes "N2 Missing") function expression
reason_text (Incorrect function expression point) = number_text (codes "N3 Incorrect") function expression (codes " point ") point
reason_text (Unsafe function expression edge) = number_text (codes "N4 Unsafe") function expression (codes " edge ") edge
reason_text (Capacity function expression arc) = number_text (codes "N5 Capacity") function expression (codes " arc ") arc
reason_text (Balance function expression node) = number_text (codes "N6 Balance") function expression (codes " node ") node
reason_text (Value function expression cost sum) = value_text (codes "N7 Value") function expression cost sum
reason_text (Rank function expression node) = number_text (codes "N8 Rank") function expression (codes " node ") node
reason_text (Places function expression) = entry_text (codes "N10 Places") function expression
reason_text (Text byte) = byte_text (codes "N9 Text") byte
