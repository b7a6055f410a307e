-- What LLVM's language has and this grammar doesn't: a stop at such a token is out of the profile, and any other stop
-- is an error of syntax.
use Rattle.std.specs.Prelude.{ℕ, Bool, ◌&&◌, ◌||◌, not, ◌==◌, ◌⊎◌, List, [], ◌∷◌, ◌++◌, length, drop, IsTrue, codes}
use Rattle.std.specs.Str.{bytes_eq}
use Rattle.std.specs.List.{list_all, list_any}
use Rattle.ir_types.specs.Bytes.{heads, is_digit}
use Rattle.ir_lexer.specs.Lexeme.{Lexeme}
use Rattle.ir_lexer.specs.declared.token.TokenKind.{TokenKind}
use Rattle.ir_lexer.specs.declared.token.TokenKind.TheVariants as kinds
use Rattle.grammar.specs.Grammar.{StopsAt}
use Rattle.ir_parser.specs.Module.{module_text}

-- ---- closed words

abbrev pub is_in : List (List ℕ) → List ℕ → Bool
is_in words text = list_any (λ word. bytes_eq text word) words

-- types, and what computes on other types than integers
abbrev pub type_words : List (List ℕ)
type_words =
    codes "ptr" ∷ codes "half" ∷ codes "bfloat" ∷ codes "float" ∷ codes "double" ∷ codes "fp128" ∷ codes "x86_fp80"
    ∷ codes "fadd" ∷ codes "fsub" ∷ codes "fmul" ∷ codes "fdiv" ∷ codes "frem" ∷ codes "fneg" ∷ codes "fcmp"
    ∷ codes "fptrunc" ∷ codes "fpext" ∷ codes "fptoui" ∷ codes "fptosi" ∷ codes "uitofp" ∷ codes "sitofp" ∷ []

-- memory, pointers, vectors and aggregates
abbrev pub memory_words : List (List ℕ)
memory_words =
    codes "getelementptr" ∷ codes "volatile" ∷ codes "atomic" ∷ codes "fence" ∷ codes "cmpxchg" ∷ codes "atomicrmw"
    ∷ codes "ptrtoint" ∷ codes "inttoptr" ∷ codes "addrspacecast" ∷ codes "extractvalue" ∷ codes "insertvalue"
    ∷ codes "extractelement" ∷ codes "insertelement" ∷ codes "shufflevector" ∷ codes "va_arg" ∷ codes "freeze" ∷ []

-- calls and control that the grammar doesn't have
abbrev pub control_words : List (List ℕ)
control_words =
    codes "invoke" ∷ codes "callbr" ∷ codes "indirectbr" ∷ codes "landingpad" ∷ codes "resume" ∷ codes "personality"
    ∷ codes "asm" ∷ codes "musttail" ∷ codes "..." ∷ []

-- what stands at the top of a text, and constants
abbrev pub top_words : List (List ℕ)
top_words =
    codes "module" ∷ codes "comdat" ∷ codes "metadata" ∷ codes "null" ∷ codes "zeroinitializer" ∷ codes "weak"
    ∷ codes "weak_odr" ∷ codes "linkonce" ∷ codes "linkonce_odr" ∷ codes "available_externally" ∷ codes "common"
    ∷ codes "external" ∷ codes "extern_weak" ∷ codes "externally_initialized" ∷ codes "thread_local"
    ∷ codes "addrspace" ∷ codes "alias" ∷ codes "ifunc" ∷ []

abbrev pub int_words : List (List ℕ)
int_words = codes "i1" ∷ codes "i8" ∷ codes "i16" ∷ codes "i32" ∷ codes "i64" ∷ []

-- `i` and digits, and none of the five types
abbrev pub is_other_width : List ℕ → Bool
is_other_width text =
    heads (λ b. b == 105) text && not (length (drop 1 text) == 0) && list_all is_digit (drop 1 text)
    && not (is_in int_words text)

abbrev pub is_closed_word : List ℕ → Bool
is_closed_word text =
    is_in type_words text || is_in memory_words text || is_in control_words text || is_in top_words text || is_other_width text

-- notes of a debugger
abbrev pub note_words : List (List ℕ)
note_words = codes "#dbg_declare" ∷ codes "#dbg_value" ∷ codes "#dbg_assign" ∷ codes "#dbg_label" ∷ []

-- ---- what is expected behind tokens

-- A token without a place worth naming, to be tried behind others.
abbrev pub probe : TokenKind → List ℕ → Lexeme
probe kind text = record { kind = kind; text = text; span = record { line = 0; start = 0; end = 0 } }

-- Behind these tokens the grammar doesn't stop at this one.
abbrev pub GoesOn : List Lexeme → Lexeme → Type 0
GoesOn front t = StopsAt module_text (front ++ t ∷ []) (t ∷ []) → ⊥

-- A phrase is expected where a token that begins it would go on. The tokens that are tried begin nothing else.
-- `i32` begins a type alone.
abbrev pub IsTypeExpected : List Lexeme → Type 0
IsTypeExpected front = GoesOn front (probe kinds.Word (codes "i32"))

abbrev pub IsDeclareExpected : List Lexeme → Type 0
IsDeclareExpected front = GoesOn front (probe kinds.Word (codes "declare"))

-- `undef` begins a value and also the first value of a global, which can't be a local.
abbrev pub IsValueExpected : List Lexeme → Type 0
IsValueExpected front = GoesOn front (probe kinds.Word (codes "undef")) × GoesOn front (probe kinds.Local (codes "%x"))

-- Both a local and an attribute go on behind the `ptr` of an argument, as they do before a value and behind the type
-- of a parameter; but before a value `undef` goes on, and behind the type of a parameter a parenthesis does.
pub record IsPointerExpected (front : List Lexeme) : Type 0 where
  pub local : GoesOn front (probe kinds.Local (codes "%x"))
  pub attribute : GoesOn front (probe kinds.Word (codes "noundef"))
  pub no_value : GoesOn front (probe kinds.Word (codes "undef")) → ⊥
  pub no_end : GoesOn front (probe kinds.Punct (codes ")")) → ⊥

-- ---- the stop

-- The token t, at which the grammar stops behind the tokens of front, is out of the profile.
abbrev pub IsOutAt : TokenKind → List Lexeme → List ℕ → Type 0
IsOutAt kinds.Word front text = IsTrue (is_closed_word text)
IsOutAt kinds.Hash front text = IsTrue (is_in note_words text)
IsOutAt kinds.Punct front text =
    IsTrue (is_in (codes "<" ∷ codes "*" ∷ []) text)
    ⊎ (IsTrue (is_in (codes "[" ∷ codes "{" ∷ []) text) × IsTypeExpected front)
IsOutAt kinds.Local front text = IsDeclareExpected front
IsOutAt kinds.Global front text = IsTrue (list_all is_digit (drop 1 text)) ⊎ (IsValueExpected front ⊎ IsPointerExpected front)
IsOutAt _ front text = ⊥

abbrev pub IsOutOfProfile : List Lexeme → List Lexeme → Type 0
IsOutOfProfile front [] = ⊥
IsOutOfProfile front (t ∷ ts) = IsOutAt t.kind front t.text
