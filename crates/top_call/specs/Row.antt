-- What the words after the program's name ask for.
use Rattle.std.specs.Prelude.{ℕ, ◌^◌, ◌&&◌, nat_lt, List, [], ◌∷◌, if◌then◌else◌, None, Some, codes, map, option_map}
use Rattle.std.specs.declared.option.Option.{Option}
use Rattle.std.specs.declared.string.String.{String}
use Rattle.std.specs.declared.alloc.Global.{Global}
use Rattle.std.specs.Fmt.{decimal}
use Rattle.std.specs.Str.{bytes_eq}
use Rattle.std.specs.Str.Parse.{digits_value}
use Rattle.std.specs.String.{string_bytes}

-- the files of `opt` and `check`: the module and its profile, the optimised module and its certificate
pub record OptFiles : Type 0 where
  pub input : List ℕ
  pub profile : List ℕ
  pub output : List ℕ
  pub certificate : List ℕ

-- a command with its file names
pub data Row : Type 0 where
  Print : (input output : List ℕ) → Row
  -- how many steps at most, the file of the module, and the file of the profile, if one is asked for
  Run : (limit : ℕ) (input : List ℕ) (profile : Option (List ℕ)) → Row
  Opt : (files : OptFiles) → Row
  Check : (files : OptFiles) → Row
  -- the file of the module, and the file of its profile
  Report : (input counted_by : List ℕ) → Row
  -- how many diamonds the module has
  Itself : (n : ℕ) → Row

-- the bytes of each word
abbrev pub texts : List (String Global) → List (List ℕ)
texts words = map (λ word. string_bytes word) words

-- `print IN OUT`
abbrev pub print_row : List (List ℕ) → Option Row
print_row (input ∷ output ∷ []) = Some (Print input output)
print_row _ = None

-- a number from 1 on and below this bound, in decimal, without sign or leading zeros
abbrev pub number_below : (bound : ℕ) → List ℕ → Option ℕ
number_below bound word =
    let n = digits_value 10 word in
    if nat_lt 0 n && nat_lt n bound && bytes_eq (decimal n) word then Some n else None

-- `-` asks for no profile
abbrev pub profile_of : List ℕ → Option (List ℕ)
profile_of word = if bytes_eq word (codes "-") then None else Some word

-- `run N IN PROF`
abbrev pub run_row : List (List ℕ) → Option Row
run_row (limit ∷ input ∷ profile ∷ []) = option_map (λ n. Run n input (profile_of profile)) (number_below (2 ^ 62) limit)
run_row _ = None

-- `opt IN PROF OUT CERT`, where OUT and CERT are two files
abbrev pub opt_row : List (List ℕ) → Option Row
opt_row (input ∷ profile ∷ output ∷ certificate ∷ []) =
    if bytes_eq output certificate then None
    else Some (Opt (record { input = input; profile = profile; output = output; certificate = certificate }))
opt_row _ = None

-- `check IN PROF OUT CERT`
abbrev pub check_row : List (List ℕ) → Option Row
check_row (input ∷ profile ∷ output ∷ certificate ∷ []) =
    Some (Check (record { input = input; profile = profile; output = output; certificate = certificate }))
check_row _ = None

-- `report IN PROF`
abbrev pub report_row : List (List ℕ) → Option Row
report_row (input ∷ profile ∷ []) = Some (Report input profile)
report_row _ = None

-- `self N`, from 1 to 10000
abbrev pub self_row : List (List ℕ) → Option Row
self_row (number ∷ []) = option_map (λ n. Itself n) (number_below 10001 number)
self_row _ = None

-- the row that the words fit, if any
abbrev pub row_of : List (List ℕ) → Option Row
row_of [] = None
row_of (command ∷ words) =
    if bytes_eq command (codes "print") then print_row words
    else (if bytes_eq command (codes "run") then run_row words
    else (if bytes_eq command (codes "opt") then opt_row words
    else (if bytes_eq command (codes "check") then check_row words
    else (if bytes_eq command (codes "report") then report_row words
    else (if bytes_eq command (codes "self") then self_row words
    else None)))))
