-- Worked rows: what words name and count, and the trees that texts spell, by computation alone.
use Rattle.std.proofs.Common.{◌≡◌, ℕ, pos, negsuc, ◌^◌, ◌-◌, List, [], ◌∷◌, Some, None, Ok, Err, refl, codes, true, false}
use Rattle.mc_num.specs.declared.op.Width.TheVariants.{I1, I8, I16, I32, I64}
use Rattle.mc_num.specs.declared.op.Bin.TheVariants as bin
use Rattle.mc_num.specs.declared.op.Pred.TheVariants as pred
use Rattle.mc_num.specs.declared.op.Cast.TheVariants as cast
use Rattle.grammar.specs.Reading.{Reading, read}
use Rattle.ir_types.specs.declared.span.At.{At}
use Rattle.ir_types.specs.declared.span.Span.{Span}
use Rattle.ir_types.specs.declared.name.Name.{Name}
use Rattle.ir_types.specs.declared.name.Name.TheVariants.{Text, Number}
use Rattle.ir_types.specs.declared.tree.Ty.TheVariants.{Int, Void, Ptr}
use Rattle.ir_types.specs.declared.tree.Address.TheVariants as addresses
use Rattle.ir_types.specs.declared.tree.RawValue.TheVariants as values
use Rattle.ir_types.specs.declared.tree.RawKind.TheVariants as forms
use Rattle.ir_types.specs.declared.tree.RawTerm.TheVariants as terms
use Rattle.ir_lexer.specs.Lexeme.{Lexeme}
use Rattle.ir_lexer.specs.Pieces.{name_piece, sign_piece, quoted_piece, run_piece, piece_of}
use Rattle.ir_lexer.specs.Tokens.{Lexing, tokens_of}
use Rattle.ir_parser.specs.Words.{name_of, local_name, global_name, label_name, literal}
use Rattle.ir_parser.specs.Tokens.{G}
use Rattle.ir_parser.specs.Values.{int_type, ret, cvalue, gvalue, value, addr, target, detail, attach, attached, extra, extras}
use Rattle.ir_parser.specs.Calls.{arg, next_arg, some_args, args, call_word, call_words, call, incoming, next_incoming, incomings, phi}
use Rattle.ir_parser.specs.Instrs.{binop, predicate, castop, flags, alloca, load, binary, compare, convert, select, computing, giving, store, result_name, giving_instr, storing_instr, bare_instr, instr, instrs}
use Rattle.ir_parser.specs.Terms.{returned, branched, switch_case, cases, switched, bare_term, term, label, block, blocks}
use Rattle.ir_parser.specs.Module.{par, next_par, some_pars, pars, signature, declare, define, variable, part, parts_of, module_text}

-- ---- words

number : name_of (codes "5") ≡ Number 5
number = refl

zeros : name_of (codes "005") ≡ Number 5
zeros = refl

quoted_number : name_of (34 ∷ 53 ∷ 34 ∷ []) ≡ Text (codes "5")
quoted_number = refl

last_number : name_of (codes "4294967294") ≡ Number (2 ^ 32 - 2)
last_number = refl

great_number : name_of (codes "5000000000") ≡ Number (2 ^ 32 - 1)
great_number = refl

digit_first : name_of (codes "1a") ≡ Text (codes "1a")
digit_first = refl

a_local : local_name (codes "%a.b") ≡ Text (codes "a.b")
a_local = refl

a_global : global_name (64 ∷ 34 ∷ 109 ∷ 34 ∷ []) ≡ codes "m"
a_global = refl

a_label : label_name (codes "1a:") ≡ Text (codes "1a")
a_label = refl

numbered_label : label_name (codes "12:") ≡ Number 12
numbered_label = refl

minus_one : literal (codes "-1") ≡ values.Number (negsuc 0)
minus_one = refl

minus_zero : literal (codes "-0") ≡ values.Number (pos 0)
minus_zero = refl

leading_zeros : literal (codes "00042") ≡ values.Number (pos 42)
leading_zeros = refl

greatest : literal (codes "170141183460469231731687303715884105727") ≡ values.Number (pos (2 ^ 127 - 1))
greatest = refl

too_great : literal (codes "170141183460469231731687303715884105728") ≡ values.Wide
too_great = refl

least : literal (codes "-170141183460469231731687303715884105728") ≡ values.Number (negsuc (2 ^ 127 - 1))
least = refl

too_small : literal (codes "-170141183460469231731687303715884105729") ≡ values.Wide
too_small = refl

-- ---- trees

-- the phrase read at the front of the tokens of a text
abbrev reads : {A : Type 0} → G A → Lexing → Reading Lexeme A
reads g (Ok ts) = read g ts
reads g (Err wrong) = Err []

abbrev place : ℕ → ℕ → Span
place start end = record { line = 1; start = start; end = end }

abbrev part_at : {T : Type 0} → ℕ → ℕ → T → At T
part_at start end item = record { item = item; span = place start end }

abbrev name : ℕ → ℕ → List ℕ → At Name
name start end text = part_at start end (Text text)

an_alloca : reads instr (tokens_of (codes "%a = alloca i16, align 4")) ≡ Ok (record { result = Some (name 0 2 (codes "a")); word = (place 5 11); kind = forms.Alloca I16 }, [])
unfolding tokens_of piece_of name_piece sign_piece quoted_piece run_piece int_type ret cvalue gvalue value addr target detail attach attached extra extras arg next_arg some_args args call_word call_words call incoming next_incoming incomings phi binop predicate castop flags alloca load binary compare convert select computing giving store result_name giving_instr storing_instr bare_instr instr instrs
an_alloca = refl

a_load : reads instr (tokens_of (codes "%v = load i32, ptr @g, align 4")) ≡ Ok (record { result = Some (name 0 2 (codes "v")); word = (place 5 9); kind = forms.Load I32 (part_at 19 21 (addresses.Global (codes "g"))) }, [])
unfolding tokens_of piece_of name_piece sign_piece quoted_piece run_piece int_type ret cvalue gvalue value addr target detail attach attached extra extras arg next_arg some_args args call_word call_words call incoming next_incoming incomings phi binop predicate castop flags alloca load binary compare convert select computing giving store result_name giving_instr storing_instr bare_instr instr instrs
a_load = refl

a_store : reads instr (tokens_of (codes "store i64 poison, ptr %x, !tbaa !5")) ≡ Ok (record { result = None; word = (place 0 5); kind = forms.Store I64 (part_at 10 16 values.Zero) (part_at 22 24 (addresses.Local (Text (codes "x")))) }, [])
unfolding tokens_of piece_of name_piece sign_piece quoted_piece run_piece int_type ret cvalue gvalue value addr target detail attach attached extra extras arg next_arg some_args args call_word call_words call incoming next_incoming incomings phi binop predicate castop flags alloca load binary compare convert select computing giving store result_name giving_instr storing_instr bare_instr instr instrs
a_store = refl

a_binop : reads instr (tokens_of (codes "%r = sub nuw nsw i8 %b, 7")) ≡ Ok (record { result = Some (name 0 2 (codes "r")); word = (place 5 8); kind = forms.Bin bin.Sub I8 (part_at 20 22 (values.Local (Text (codes "b")))) (part_at 24 25 (values.Number (pos 7))) }, [])
unfolding tokens_of piece_of name_piece sign_piece quoted_piece run_piece int_type ret cvalue gvalue value addr target detail attach attached extra extras arg next_arg some_args args call_word call_words call incoming next_incoming incomings phi binop predicate castop flags alloca load binary compare convert select computing giving store result_name giving_instr storing_instr bare_instr instr instrs
a_binop = refl

a_comparison : reads instr (tokens_of (codes "icmp samesign ult i16 %q, 65535")) ≡ Ok (record { result = None; word = (place 0 4); kind = forms.Icmp pred.Ult I16 (part_at 22 24 (values.Local (Text (codes "q")))) (part_at 26 31 (values.Number (pos 65535))) }, [])
unfolding tokens_of piece_of name_piece sign_piece quoted_piece run_piece int_type ret cvalue gvalue value addr target detail attach attached extra extras arg next_arg some_args args call_word call_words call incoming next_incoming incomings phi binop predicate castop flags alloca load binary compare convert select computing giving store result_name giving_instr storing_instr bare_instr instr instrs
a_comparison = refl

a_cast : reads instr (tokens_of (codes "%z = zext nneg i1 true to i64")) ≡ Ok (record { result = Some (name 0 2 (codes "z")); word = (place 5 9); kind = forms.Cast cast.Zext I1 (part_at 18 22 (values.Bool true)) (part_at 26 29 I64) }, [])
unfolding tokens_of piece_of name_piece sign_piece quoted_piece run_piece int_type ret cvalue gvalue value addr target detail attach attached extra extras arg next_arg some_args args call_word call_words call incoming next_incoming incomings phi binop predicate castop flags alloca load binary compare convert select computing giving store result_name giving_instr storing_instr bare_instr instr instrs
a_cast = refl

a_select : reads instr (tokens_of (codes "%s = select i1 %c, i8 -1, i16 %b")) ≡ Ok (record { result = Some (name 0 2 (codes "s")); word = (place 5 11); kind = forms.Select (part_at 15 17 (values.Local (Text (codes "c")))) I8 (part_at 22 24 (values.Number (negsuc 0))) (part_at 26 29 I16) (part_at 30 32 (values.Local (Text (codes "b")))) }, [])
unfolding tokens_of piece_of name_piece sign_piece quoted_piece run_piece int_type ret cvalue gvalue value addr target detail attach attached extra extras arg next_arg some_args args call_word call_words call incoming next_incoming incomings phi binop predicate castop flags alloca load binary compare convert select computing giving store result_name giving_instr storing_instr bare_instr instr instrs
a_select = refl

a_call : reads instr (tokens_of (codes "%r = tail call ccc i32 @f(i32 noundef 3, ptr signext %x) #1 nounwind, align 4")) ≡ Ok (record { result = Some (name 0 2 (codes "r")); word = (place 10 14); kind = forms.Call (Int I32) (part_at 23 25 (codes "f")) (record { ty = Int I32; value = (part_at 38 39 (values.Number (pos 3))) } ∷ record { ty = Ptr; value = (part_at 53 55 (values.Local (Text (codes "x")))) } ∷ []) }, [])
unfolding tokens_of piece_of name_piece sign_piece quoted_piece run_piece int_type ret cvalue gvalue value addr target detail attach attached extra extras arg next_arg some_args args call_word call_words call incoming next_incoming incomings phi binop predicate castop flags alloca load binary compare convert select computing giving store result_name giving_instr storing_instr bare_instr instr instrs
a_call = refl

a_bare_call : reads instr (tokens_of (codes "call void @h()")) ≡ Ok (record { result = None; word = (place 0 4); kind = forms.Call Void (part_at 10 12 (codes "h")) [] }, [])
unfolding tokens_of piece_of name_piece sign_piece quoted_piece run_piece int_type ret cvalue gvalue value addr target detail attach attached extra extras arg next_arg some_args args call_word call_words call incoming next_incoming incomings phi binop predicate castop flags alloca load binary compare convert select computing giving store result_name giving_instr storing_instr bare_instr instr instrs
a_bare_call = refl

a_phi : reads instr (tokens_of (codes "%p = phi i32 [ 0, %a ], [ undef, %b ], !dbg !7")) ≡ Ok (record { result = Some (name 0 2 (codes "p")); word = (place 5 8); kind = forms.Phi I32 (((part_at 15 16 (values.Number (pos 0))), (name 18 20 (codes "a"))) ∷ ((part_at 26 31 values.Zero), (name 33 35 (codes "b"))) ∷ []) }, [])
unfolding tokens_of piece_of name_piece sign_piece quoted_piece run_piece int_type ret cvalue gvalue value addr target detail attach attached extra extras arg next_arg some_args args call_word call_words call incoming next_incoming incomings phi binop predicate castop flags alloca load binary compare convert select computing giving store result_name giving_instr storing_instr bare_instr instr instrs
a_phi = refl

a_return : reads term (tokens_of (codes "ret void, !dbg !1")) ≡ Ok (((place 0 3), terms.Return None), [])
unfolding tokens_of piece_of name_piece sign_piece quoted_piece run_piece int_type ret cvalue gvalue value addr target detail attach attached extra extras arg next_arg some_args args call_word call_words call incoming next_incoming incomings phi binop predicate castop flags alloca load binary compare convert select computing giving store result_name giving_instr storing_instr bare_instr instr instrs returned branched switch_case cases switched bare_term term label block blocks
a_return = refl

a_return_of_a_value : reads term (tokens_of (codes "ret i8 %v")) ≡ Ok (((place 0 3), terms.Return (Some (I8, (part_at 7 9 (values.Local (Text (codes "v"))))))), [])
unfolding tokens_of piece_of name_piece sign_piece quoted_piece run_piece int_type ret cvalue gvalue value addr target detail attach attached extra extras arg next_arg some_args args call_word call_words call incoming next_incoming incomings phi binop predicate castop flags alloca load binary compare convert select computing giving store result_name giving_instr storing_instr bare_instr instr instrs returned branched switch_case cases switched bare_term term label block blocks
a_return_of_a_value = refl

a_jump : reads term (tokens_of (codes "br label %q")) ≡ Ok (((place 0 2), terms.Jump (name 9 11 (codes "q"))), [])
unfolding tokens_of piece_of name_piece sign_piece quoted_piece run_piece int_type ret cvalue gvalue value addr target detail attach attached extra extras arg next_arg some_args args call_word call_words call incoming next_incoming incomings phi binop predicate castop flags alloca load binary compare convert select computing giving store result_name giving_instr storing_instr bare_instr instr instrs returned branched switch_case cases switched bare_term term label block blocks
a_jump = refl

a_branch : reads term (tokens_of (codes "br i1 %c, label %a, label %b")) ≡ Ok (((place 0 2), terms.Branch (part_at 6 8 (values.Local (Text (codes "c")))) (name 16 18 (codes "a")) (name 26 28 (codes "b"))), [])
unfolding tokens_of piece_of name_piece sign_piece quoted_piece run_piece int_type ret cvalue gvalue value addr target detail attach attached extra extras arg next_arg some_args args call_word call_words call incoming next_incoming incomings phi binop predicate castop flags alloca load binary compare convert select computing giving store result_name giving_instr storing_instr bare_instr instr instrs returned branched switch_case cases switched bare_term term label block blocks
a_branch = refl

a_switch : reads term (tokens_of (codes "switch i32 %v, label %d [ i32 1, label %x i64 -2, label %y ]")) ≡ Ok (((place 0 6), terms.Switch I32 (part_at 11 13 (values.Local (Text (codes "v")))) (name 21 23 (codes "d")) (record { width = (part_at 26 29 I32); value = (part_at 30 31 (values.Number (pos 1))); label = (name 39 41 (codes "x")) } ∷ record { width = (part_at 42 45 I64); value = (part_at 46 48 (values.Number (negsuc 1))); label = (name 56 58 (codes "y")) } ∷ [])), [])
unfolding tokens_of piece_of name_piece sign_piece quoted_piece run_piece int_type ret cvalue gvalue value addr target detail attach attached extra extras arg next_arg some_args args call_word call_words call incoming next_incoming incomings phi binop predicate castop flags alloca load binary compare convert select computing giving store result_name giving_instr storing_instr bare_instr instr instrs returned branched switch_case cases switched bare_term term label block blocks
a_switch = refl

an_unreachable : reads term (tokens_of (codes "unreachable")) ≡ Ok (((place 0 11), terms.Unreachable), [])
unfolding tokens_of piece_of name_piece sign_piece quoted_piece run_piece int_type ret cvalue gvalue value addr target detail attach attached extra extras arg next_arg some_args args call_word call_words call incoming next_incoming incomings phi binop predicate castop flags alloca load binary compare convert select computing giving store result_name giving_instr storing_instr bare_instr instr instrs returned branched switch_case cases switched bare_term term label block blocks
an_unreachable = refl

a_text : reads module_text (tokens_of (codes "@g = dso_local constant i1 false declare void @d(i32 noundef, i8 %x) #0 define internal i8 @f() unnamed_addr { ret i8 5 q: unreachable }")) ≡ Ok (
  record {
    functions = record { name = (part_at 46 48 (codes "d")); ret = Void; params = record { width = I32; name = None } ∷ record { width = I8; name = Some (name 65 67 (codes "x")) } ∷ []; blocks = [] }
        ∷ record {
          name = (part_at 91 93 (codes "f"));
          ret = Int I8;
          params = [];
          blocks =
              record { label = None; instrs = []; term = terms.Return (Some (I8, (part_at 118 119 (values.Number (pos 5))))); term_word = (place 111 114) }
              ∷ record { label = Some (name 120 122 (codes "q")); instrs = []; term = terms.Unreachable; term_word = (place 123 134) } ∷ [];
        } ∷ [];
    globals = record { name = (part_at 0 2 (codes "g")); width = I1; value = (part_at 27 32 (values.Bool false)) } ∷ [];
  },
  [],
)
unfolding tokens_of piece_of name_piece sign_piece quoted_piece run_piece int_type ret cvalue gvalue value addr target detail attach attached extra extras arg next_arg some_args args call_word call_words call incoming next_incoming incomings phi binop predicate castop flags alloca load binary compare convert select computing giving store result_name giving_instr storing_instr bare_instr instr instrs returned branched switch_case cases switched bare_term term label block blocks par next_par some_pars pars signature declare define variable part parts_of module_text
a_text = refl

no_text : reads module_text (tokens_of []) ≡ Ok (record { functions = []; globals = [] }, [])
unfolding tokens_of piece_of name_piece sign_piece quoted_piece run_piece int_type ret cvalue gvalue value addr target detail attach attached extra extras arg next_arg some_args args call_word call_words call incoming next_incoming incomings phi binop predicate castop flags alloca load binary compare convert select computing giving store result_name giving_instr storing_instr bare_instr instr instrs returned branched switch_case cases switched bare_term term label block blocks par next_par some_pars pars signature declare define variable part parts_of module_text
no_text = refl
