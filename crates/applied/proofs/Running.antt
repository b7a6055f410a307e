-- What the new run does by itself: groups before an instruction, and stores behind it.
use Rattle.std.proofs.Common.{◌≡◌, ◌≢◌, ℕ, zero, suc, ◌+◌, ◌-◌, ◌<◌, ◌≤◌, Bool, true, false, if◌then◌else◌, List, [], ◌∷◌, ◌++◌, length, map, get_or, Some, None, Result, Ok, Err, refl, sym, ap, ◌∙◌, subst, arith, ⊎_elim, length-append, length-set, append_assoc}
use Rattle.std.specs.Prelude.{slice_get, slice_index, slice_set}
use Rattle.std.proofs.Math.Seq.{get_or-append_seam}
use Rattle.std.proofs.lemmas.List.{get_or_append_left, get_or-set_other, set-append_right}
use Rattle.std.proofs.lemmas.Option.{slice_get_within}
use Rattle.std.proofs.lemmas.Bool.{cases_eq}
use Rattle.mc_num.specs.Value.{value_of}
use Rattle.mc_num.specs.declared.op.Trap.{Trap}
use Rattle.ir_types.specs.Program.{Program}
use Rattle.ir_types.specs.declared.name.Made.TheVariants.{Sum, Operand}
use Rattle.ir_types.specs.declared.name.Name.{Name}
use Rattle.ir_types.specs.declared.syntax.Operand.TheVariants.{Reg}
use Rattle.ir_types.specs.declared.syntax.Variable.{Variable}
use Rattle.ir_types.specs.declared.syntax.Variable.TheVariants.{Local, Global}
use Rattle.ir_types.specs.declared.syntax.Kind.TheVariants.{Load, Compute}
use Rattle.ir_types.specs.declared.syntax.Instr.{Instr}
use Rattle.ir_types.specs.declared.syntax.Block.{Block}
use Rattle.machines.specs.Acts.{Goes}
use Rattle.machines.proofs.ByFrames.{TrapsIn, Comes, FollowsFrame, TrapsToo}
use Rattle.ir_machine.specs.declared.frame.Frame.{Frame}
use Rattle.ir_machine.specs.Step.{Globals, value_in, variable_in, past, computed, block_at, frames_of}
use Rattle.point_graph.specs.Graph.{Edge}
use Rattle.expressions.specs.declared.syntax.Arg.{Arg}
use Rattle.expressions.specs.declared.syntax.Arg.TheVariants.{Const as ConstArg, Param as ParamArg, Var as VarArg}
use Rattle.applied.specs.Motion.{arg_in, expr_in, Move}
use Rattle.applied.specs.Applied.{Naming, made, StandsAt, arg_load, arg_loads, load_count, arg_operand, arg_operands, store_to, group, groups, is_stored, stores}
use Rattle.applied.proofs.Fitting.{VariableWithin, IsEarlier}
use Rattle.applied.proofs.Steps.{Further, further_none, further_past, further_then, further_length, further_value, stands_both, acts, goes, comes_goes}
use Rattle.applied.proofs.Agreeing.{Agrees, agrees_further}

set_at : (xs : List ℕ) (i v : ℕ) → i < length xs → get_or (slice_set xs i v) i 0 ≡ v
set_at [] i v lt = absurd (omega (arith, lt))
set_at (x ∷ xs) zero v lt = refl
set_at (x ∷ xs) (suc i) v lt = set_at xs i v (omega (arith, lt))

set_behind : (xs ys : List ℕ) (i v : ℕ) → slice_set (xs ++ ys) (length xs + i) v ≡ xs ++ slice_set ys i v
set_behind xs ys i v =
    let e : length xs + i - length xs ≡ i = omega arith in
    set-append_right xs ys (length xs) (length xs + i) v refl (omega arith) ∙ ap (λ k. xs ++ slice_set ys k v) e

pub variable_same : (globals : Globals) (f g : Frame) (x : Variable) → g.variables ≡ f.variables → variable_in globals g x ≡ variable_in globals f x
variable_same globals f g (Local x) e = ap (λ l. slice_index l x) e
variable_same globals f g (Global y) e = refl

pub arg_same : (globals : Globals) (f g : Frame) (arg : Arg) → g.arguments ≡ f.arguments → g.variables ≡ f.variables → arg_in globals g arg ≡ arg_in globals f arg
arg_same globals f g (ConstArg c) e e' = refl
arg_same globals f g (ParamArg i) e e' = ap (λ l. slice_index l i) e
arg_same globals f g (VarArg x) e e' = variable_same globals f g x e'

pub args_same : (globals : Globals) (f g : Frame) (args : List Arg) → g.arguments ≡ f.arguments → g.variables ≡ f.variables → map (arg_in globals g) args ≡ map (arg_in globals f) args
args_same globals f g [] e e' = refl
args_same globals f g (arg ∷ args) e e' =
    ap (λ v. v ∷ map (arg_in globals g) args) (arg_same globals f g arg e e') ∙ ap (λ l. arg_in globals f arg ∷ l) (args_same globals f g args e e')

-- an operand whose variable is one of so many
abbrev pub ArgWithin : ℕ → Arg → Type 0
ArgWithin vars (ConstArg c) = Unit {0}
ArgWithin vars (ParamArg i) = Unit {0}
ArgWithin vars (VarArg x) = VariableWithin vars x

abbrev pub ArgsWithin : ℕ → List Arg → Type 0
ArgsWithin vars [] = Unit {0}
ArgsWithin vars (arg ∷ args) = ArgWithin vars arg × ArgsWithin vars args

variable_agrees : (number : ℕ → ℕ) (extra : List ℕ) (globals : Globals) (f f' : Frame) → Agrees number extra f f' → (x : Variable) → VariableWithin (length f.variables) x → variable_in globals f' x ≡ variable_in globals f x
variable_agrees number extra globals f f' agrees (Local x) within = ap (λ l. get_or l x 0) agrees.variables ∙ get_or_append_left f.variables extra 0 x within
variable_agrees number extra globals f f' agrees (Global y) within = refl

arg_agrees : (number : ℕ → ℕ) (extra : List ℕ) (globals : Globals) (f f' : Frame) → Agrees number extra f f' → (arg : Arg) → ArgWithin (length f.variables) arg → arg_in globals f' arg ≡ arg_in globals f arg
arg_agrees number extra globals f f' agrees (ConstArg c) within = refl
arg_agrees number extra globals f f' agrees (ParamArg i) within = ap (λ l. slice_index l i) agrees.arguments
arg_agrees number extra globals f f' agrees (VarArg x) within = variable_agrees number extra globals f f' agrees x within

pub args_agree : (number : ℕ → ℕ) (extra : List ℕ) (globals : Globals) (f f' : Frame) → Agrees number extra f f' → (args : List Arg) → ArgsWithin (length f.variables) args → map (arg_in globals f') args ≡ map (arg_in globals f) args
args_agree number extra globals f f' agrees [] within = refl
args_agree number extra globals f f' agrees (arg ∷ args) within =
    ap (λ v. v ∷ map (arg_in globals f') args) (arg_agrees number extra globals f f' agrees arg within.0)
    ∙ ap (λ l. arg_in globals f arg ∷ l) (args_agree number extra globals f f' agrees args within.1)

module _ (m' : Program) (block' : Block) (moves : List Move) (number : ℕ → ℕ) where
  -- the frames agree, and for each expression with L the temporary holds its value
  pub record Ready (L : ℕ → Move → Type 0) (globals : Globals) (f f' : Frame) : Type 0 where
    pub extra : List ℕ
    pub agrees : Agrees number extra f f'
    pub size : length extra ≡ length moves
    pub here : block_at m' f'.function f'.block ≡ Some block'
    pub facts : (x : ℕ) (move : Move) → slice_get moves x ≡ Some move → L x move → expr_in globals f move.expr ≡ Ok (slice_index extra x)

  pub ready_by : (L L' : ℕ → Move → Type 0) (globals : Globals) (f f' : Frame) → Ready L globals f f' → ((x : ℕ) (move : Move) → slice_get moves x ≡ Some move → L' x move → L x move) → Ready L' globals f f'
  ready_by L L' globals f f' ready by = record {
    extra = ready.extra;
    agrees = ready.agrees;
    size = ready.size;
    here = ready.here;
    facts = λ x move there l. ready.facts x move there (by x move there l);
  }

  -- a temporary is set to the value of its expression
  ready_set : (L L' : ℕ → Move → Type 0) (globals : Globals) (f f' g : Frame) → Ready L globals f f' → (x temp v k : ℕ) (move : Move) → slice_get moves x ≡ Some move → temp ≡ length f.variables + x → expr_in globals f move.expr ≡ Ok v → Further f' (slice_set f'.variables temp v) k g → ((i : ℕ) (other : Move) → slice_get moves i ≡ Some other → i ≢ x → L' i other → L i other) → Ready L' globals f g
  ready_set L L' globals f f' g ready x temp v k move there is value further by = record {
    extra = slice_set ready.extra x v;
    agrees = agrees_further number ready.extra f f' g (slice_set f'.variables temp v) k (slice_set ready.extra x v) ready.agrees further
        (ap (λ l. slice_set l temp v) ready.agrees.variables ∙ ap (λ i. slice_set (f.variables ++ ready.extra) i v) is ∙ set_behind f.variables ready.extra x v);
    size = length-set ready.extra x v ∙ ready.size;
    here = ap (λ i. block_at m' i g.block) further.function ∙ ap (block_at m' f'.function) further.block ∙ ready.here;
    facts = λ i other at l. ⊎_elim
        (λ (e : i ≡ x).
        let at' : slice_get moves x ≡ Some other = ap (slice_get moves) (sym e) ∙ at in
        let same : move ≡ other = let both : Some move ≡ Some other = sym there ∙ at' in cc in
        let lt : x < length ready.extra = omega (arith, slice_get_within moves x move there, ready.size) in
        ap (λ o. expr_in globals f o.expr) (sym same) ∙ value ∙ ap Ok (sym (ap (λ j. get_or (slice_set ready.extra x v) j 0) e ∙ set_at ready.extra x v lt)))
        (λ (n : i ≡ x → ⊥). ready.facts i other at (by i other at n l) ∙ ap Ok (sym (get_or-set_other ready.extra x i v 0 n)))
        (cases_eq i x);
  }

length_load : (name : Name) (arg : Arg) → length (arg_load name arg) ≡ load_count arg
length_load name (ConstArg c) = refl
length_load name (ParamArg i) = refl
length_load name (VarArg x) = refl

module _ (m m' : Program) (related : Globals → Frame → Frame → Type 0) (block' : Block) where
  abbrev pub Follows : Globals → Frame → Frame → Type 0
  Follows globals f f' = FollowsFrame (frames_of m) (frames_of m') related globals f f'

  -- an operand is loaded
  arg_run : (name : Name) (globals : Globals) (f f' : Frame) (arg : Arg) (rest : List Instr) (n : ℕ) → length f'.registers ≡ n → block_at m' f'.function f'.block ≡ Some block' → StandsAt block'.instrs n (arg_load name arg ++ rest) → ((g : Frame) → Further f' f'.variables (load_count arg) g → value_in g (arg_operand n arg) ≡ arg_in globals f' arg → IsEarlier (length g.registers) (arg_operand n arg) → StandsAt block'.instrs (n + load_count arg) rest → Follows globals f g) → Follows globals f f'
  arg_run name globals f f' (ConstArg c) rest n len here stands next =
      let e : n ≡ n + 0 = omega arith in next f' (further_none f') refl tt (subst (λ k. StandsAt block'.instrs k rest) e stands)
  arg_run name globals f f' (ParamArg i) rest n len here stands next =
      let e : n ≡ n + 0 = omega arith in next f' (further_none f') refl tt (subst (λ k. StandsAt block'.instrs k rest) e stands)
  arg_run name globals f f' (VarArg x) rest n len here stands next =
      let v = variable_in globals f' x in
      let e : suc n ≡ n + 1 = omega arith in
      goes (frames_of m) (frames_of m') related globals f f' (past f' v) None
      (acts m' block' globals f' (record { result = Some name; kind = Load x }) here (ap (slice_get block'.instrs) len ∙ stands.0))
      (next (past f' v) (further_past f' f'.variables 0 f' (further_none f') v f'.variables)
      (ap (λ k. get_or (f'.registers ++ v ∷ []) k 0) (sym len) ∙ get_or-append_seam f'.registers v [] 0)
      (omega (arith, len, length-append f'.registers (v ∷ [])))
      (subst (λ k. StandsAt block'.instrs k rest) e stands.1))

  -- all operands are loaded
  args_run : (naming : Naming) (x p i : ℕ) (globals : Globals) (f f' : Frame) (args : List Arg) (rest : List Instr) (n : ℕ) → length f'.registers ≡ n → block_at m' f'.function f'.block ≡ Some block' → StandsAt block'.instrs n (arg_loads naming x p i args ++ rest) → ((g : Frame) → Further f' f'.variables (length (arg_loads naming x p i args)) g → map (value_in g) (arg_operands n args) ≡ map (arg_in globals f') args → StandsAt block'.instrs (n + length (arg_loads naming x p i args)) rest → Follows globals f g) → Follows globals f f'
  args_run naming x p i globals f f' [] rest n len here stands next =
      let e : n ≡ n + 0 = omega arith in next f' (further_none f') refl (subst (λ k. StandsAt block'.instrs k rest) e stands)
  args_run naming x p i globals f f' (arg ∷ args) rest n len here stands next =
      let name = made naming (Operand x p i) in
      let one = arg_load name arg in
      let others = arg_loads naming x p (suc i) args in
      let size = length_load name arg in
      let n1 = n + load_count arg in
      arg_run name globals f f' arg (others ++ rest) n len here (subst (StandsAt block'.instrs n) (append_assoc one others rest) stands)
      (λ g1 further1 value1 earlier1 stands1.
      let len1 : length g1.registers ≡ n1 = omega (arith, further_length f' f'.variables (load_count arg) g1 further1, len) in
      let here1 = ap (λ i. block_at m' i g1.block) further1.function ∙ ap (block_at m' f'.function) further1.block ∙ here in
      args_run naming x p (suc i) globals f g1 args rest n1 len1 here1 stands1
      (λ g2 further2 values2 stands2.
      let total : load_count arg + length others ≡ length (one ++ others) = omega (arith, length-append one others, size) in
      let place : n1 + length others ≡ n + length (one ++ others) = omega (arith, length-append one others, size) in
      let value2 = further_value g1 g1.variables (length others) g2 further2 (arg_operand n arg) earlier1 ∙ value1 in
      let values = values2 ∙ args_same globals f' g1 args further1.arguments further1.holds in
      let further12 : Further f' g1.variables (load_count arg + length others) g2 = further_then f' f'.variables (load_count arg) g1 g1.variables (length others) g2 further1 further2 in
      let further : Further f' f'.variables (length (one ++ others)) g2 = subst (λ k. Further f' f'.variables k g2) total (subst (λ V. Further f' V (load_count arg + length others) g2) further1.holds further12) in
      next g2 further
      (ap (λ v. v ∷ map (value_in g2) (arg_operands n1 args)) value2 ∙ ap (λ l. arg_in globals f' arg ∷ l) values)
      (subst (λ k. StandsAt block'.instrs k rest) place stands2)))

  group_ends : (globals : Globals) (f f' g : Frame) (temp n count total : ℕ) (r : Result ℕ Trap) → length g.registers ≡ n → block_at m' g.function g.block ≡ Some block' → slice_get block'.instrs (suc n) ≡ Some (store_to n temp) → (frames_of m').act globals g ≡ computed r globals g → (W : List ℕ) → Further f' W count g → g.variables ≡ f'.variables → total ≡ count + 2 → ((trap : Trap) → r ≡ Err trap → (i : ℕ) × TrapsIn (frames_of m) i globals f trap) → ((v : ℕ) (h : Frame) → r ≡ Ok v → Further f' (slice_set f'.variables temp v) total h → Follows globals f h) → Follows globals f g
  group_ends globals f f' g temp n count total (Err trap) len here store computes W further same sum traps next =
      let t = traps trap refl in TrapsToo t.0 0 trap t.1 computes
  group_ends globals f f' g temp n count total (Ok v) len here store computes W further same sum traps next =
      let g3 = past g v in
      let len3 : length g3.registers ≡ suc n = omega (arith, length-append g.registers (v ∷ []), len) in
      let value : value_in g3 (Reg n) ≡ v = ap (λ k. get_or (g.registers ++ v ∷ []) k 0) (sym len) ∙ get_or-append_seam g.registers v [] 0 in
      let variables : slice_set g.variables temp (value_in g3 (Reg n)) ≡ slice_set f'.variables temp v =
      ap (λ l. slice_set l temp (value_in g3 (Reg n))) same ∙ ap (slice_set f'.variables temp) value in
      let further3 = further_past f' W count g further v g.variables in
      let further4 = further_past f' g.variables (count + 1) g3 further3 0 (slice_set f'.variables temp v) in
      let e : count + 1 + 1 ≡ total = omega (arith, sum) in
      let h = past (record g3 { variables = slice_set f'.variables temp v }) 0 in
      goes (frames_of m) (frames_of m') related globals f g g3 None computes
      (goes (frames_of m) (frames_of m') related globals f g3 h None
      (acts m' block' globals g3 (store_to n temp) here (ap (slice_get block'.instrs) len3 ∙ store)
      ∙ ap (λ V. Goes None (past (record g3 { variables = V }) 0) globals) variables)
      (next v h refl (subst (λ k. Further f' (slice_set f'.variables temp v) k h) e further4)))

  -- the group computes the expression into its temporary, or traps as the old run does
  group_run : (naming : Naming) (edge : Edge) (globals : Globals) (f f' : Frame) (move : Move) (temp n : ℕ) → length f'.registers ≡ n → block_at m' f'.function f'.block ≡ Some block' → StandsAt block'.instrs n (group naming edge n temp move) → (r : Result ℕ Trap) → expr_in globals f' move.expr ≡ r → ((trap : Trap) → r ≡ Err trap → (i : ℕ) × TrapsIn (frames_of m) i globals f trap) → ((v : ℕ) (g : Frame) → r ≡ Ok v → Further f' (slice_set f'.variables temp v) (length (group naming edge n temp move)) g → Follows globals f g) → Follows globals f f'
  group_run naming edge globals f f' move temp n len here stands r value traps next =
      let e = move.expr in
      let p = naming.edge_number edge in
      let loads = arg_loads naming move.number p 0 e.args in
      let n1 = n + length loads in
      let operation : Instr = record { result = Some (made naming (Sum move.number p)); kind = Compute e.op (arg_operands n e.args) } in
      let rest = operation ∷ store_to n1 temp ∷ [] in
      args_run naming move.number p 0 globals f f' e.args rest n len here stands
      (λ g further values stands1.
      let len1 : length g.registers ≡ n1 = omega (arith, further_length f' f'.variables (length loads) g further, len) in
      let here1 = ap (λ i. block_at m' i g.block) further.function ∙ ap (block_at m' f'.function) further.block ∙ here in
      let computes = acts m' block' globals g operation here1 (ap (slice_get block'.instrs) len1 ∙ stands1.0)
      ∙ ap (λ l. computed (value_of e.op l) globals g) values
      ∙ ap (λ r. computed r globals g) value in
      group_ends globals f f' g temp n1 (length loads) (length (group naming edge n temp move)) r len1 here1 stands1.1.0 computes f'.variables further further.holds (omega (arith, length-append loads rest)) traps next)

  module _ (naming : Naming) (moves : List Move) (number : ℕ → ℕ) where
    module _ (globals : Globals) (f : Frame) where
      abbrev pub Within : Type 0
      Within = (x : ℕ) (move : Move) → slice_get moves x ≡ Some move → ArgsWithin (length f.variables) move.expr.args

      module _ (edge : Edge) (Live : Move → Type 0) (within : Within) where
        -- the temporaries before x have had their groups
        abbrev pub Stage : ℕ → ℕ → Move → Type 0
        Stage x i move = Live move × (x ≤ i → move.inserted edge ≡ false)

        abbrev pub TrapsAlike : Type 0
        TrapsAlike = (x : ℕ) (move : Move) → slice_get moves x ≡ Some move → move.inserted edge ≡ true → (trap : Trap) → expr_in globals f move.expr ≡ Err trap → (i : ℕ) × TrapsIn (frames_of m) i globals f trap

        abbrev Arrived : List Instr → ℕ → Frame → Type 0
        Arrived kinds n g = Ready m' block' moves number (λ i move. Live move) globals f g × (length g.registers ≡ n + length kinds)

        abbrev Runs : List Move → ℕ → Type 0
        Runs rest x =
            (n temp : ℕ) (f' : Frame) → temp ≡ length f.variables + x → length f'.registers ≡ n → StandsAt block'.instrs n (groups naming n temp edge rest)
            → Ready m' block' moves number (Stage x) globals f f' → ((g : Frame) → Arrived (groups naming n temp edge rest) n g → Follows globals f g) → Follows globals f f'

        abbrev group_if : Bool → ℕ → ℕ → Move → List Instr
        group_if b n temp move = if b then group naming edge n temp move else []

        one_run : (traps : TrapsAlike) (move : Move) (rest : List Move) (x : ℕ) → slice_get moves x ≡ Some move → Runs rest (suc x) → (b : Bool) → move.inserted edge ≡ b → (n temp : ℕ) (f' : Frame) → temp ≡ length f.variables + x → length f'.registers ≡ n → StandsAt block'.instrs n (group_if b n temp move ++ groups naming (n + length (group_if b n temp move)) (suc temp) edge rest) → Ready m' block' moves number (Stage x) globals f f' → ((g : Frame) → Arrived (group_if b n temp move ++ groups naming (n + length (group_if b n temp move)) (suc temp) edge rest) n g → Follows globals f g) → Follows globals f f'
        one_run traps move rest x there runs true is n temp f' at len stands ready next =
            let here = group naming edge n temp move in
            let behind = groups naming (n + length here) (suc temp) edge rest in
            let both = stands_both block'.instrs n here behind stands in
            let inside = within x move there in
            let value = ap (value_of move.expr.op) (args_agree number ready.extra globals f f' ready.agrees move.expr.args inside) in
            group_run naming edge globals f f' move temp n len ready.here both.0 (expr_in globals f move.expr) value (λ trap e. traps x move there is trap e)
            (λ v g e further.
            let ready' : Ready m' block' moves number (Stage (suc x)) globals f g =
            ready_set m' block' moves number (Stage x) (Stage (suc x)) globals f f' g ready x temp v (length here) move there at e further
            (λ i other at' ne l. (l.0, λ le. l.1 (omega (arith, le, ne)))) in
            runs (n + length here) (suc temp) g (omega (arith, at)) (omega (arith, further_length f' (slice_set f'.variables temp v) (length here) g further, len)) both.1 ready'
            (λ h arrived. next h (arrived.0, omega (arith, arrived.1, length-append here behind))))
        one_run traps move rest x there runs false is n temp f' at len stands ready next =
            let e : n ≡ n + 0 = omega arith in
            let behind = groups naming (n + 0) (suc temp) edge rest in
            runs (n + 0) (suc temp) f' (omega (arith, at)) (omega (arith, len)) (subst (λ k. StandsAt block'.instrs k behind) e stands)
            (ready_by m' block' moves number (Stage x) (Stage (suc x)) globals f f' ready
            (λ i other at' l. (
              l.0,
              λ le. ⊎_elim
                  (λ (e' : i ≡ x).
                  let both : Some move ≡ Some other = sym there ∙ ap (slice_get moves) (sym e') ∙ at' in
                  let same : move ≡ other = cc in
                  ap (λ o. o.inserted edge) (sym same) ∙ is)
                  (λ (ne : i ≡ x → ⊥). l.1 (omega (arith, le, ne)))
                  (cases_eq i x),
            )))
            (λ h arrived. next h (arrived.0, omega (arith, arrived.1)))

        pub groups_run : (traps : TrapsAlike) (rest : List Move) (x : ℕ) → ((i : ℕ) → slice_get rest i ≡ slice_get moves (x + i)) → Runs rest x
        groups_run traps [] x suffix n temp f' at len stands ready next =
            next f' (
              ready_by m' block' moves number (Stage x) (λ i move. Live move) globals f f' ready
                  (λ i move there live. (
                    live,
                    λ le.
                        let e : x + (i - x) ≡ i = omega (arith, le) in
                        let none : None ≡ Some move = suffix (i - x) ∙ ap (slice_get moves) e ∙ there in
                        absurd cc,
                  )),
              omega (arith, len),
            )
        groups_run traps (move ∷ rest) x suffix n temp f' at len stands ready next =
            let e : x + 0 ≡ x = omega arith in
            let there : slice_get moves x ≡ Some move = sym (suffix 0 ∙ ap (slice_get moves) e) in
            one_run traps move rest x there
            (groups_run traps rest (suc x) (λ i. let e' : x + suc i ≡ suc x + i = omega arith in suffix (suc i) ∙ ap (slice_get moves) e'))
            (move.inserted edge) refl n temp f' at len stands ready next

      module _ (b k r v : ℕ) (Live : Move → Type 0) (values : (x : ℕ) (move : Move) → slice_get moves x ≡ Some move → is_stored move b k ≡ true → expr_in globals f move.expr ≡ Ok v) where
        -- the temporaries before x have had their stores
        abbrev pub StoreStage : ℕ → ℕ → Move → Type 0
        StoreStage x i move = Live move × (x ≤ i → is_stored move b k ≡ false)

        abbrev ComesTo : Frame → Type 0
        ComesTo g = Comes (frames_of m) (frames_of m') related globals f globals g

        abbrev Stored : List Instr → ℕ → Frame → Type 0
        Stored kinds n g = Ready m' block' moves number (λ i move. Live move) globals f g × (length g.registers ≡ n + length kinds)

        abbrev RunsStores : List Move → ℕ → Type 0
        RunsStores rest x =
            (n temp : ℕ) (f' : Frame) → temp ≡ length f.variables + x → length f'.registers ≡ n → StandsAt block'.instrs n (stores temp r b k rest)
            → slice_index f'.registers r ≡ v → r < n → Ready m' block' moves number (StoreStage x) globals f f' → ((g : Frame) → Stored (stores temp r b k rest) n g → ComesTo g) → ComesTo f'

        abbrev store_if : Bool → ℕ → List Instr
        store_if is temp = if is then store_to r temp ∷ [] else []

        one_store : (move : Move) (rest : List Move) (x : ℕ) → slice_get moves x ≡ Some move → RunsStores rest (suc x) → (q : Bool) → is_stored move b k ≡ q → (n temp : ℕ) (f' : Frame) → temp ≡ length f.variables + x → length f'.registers ≡ n → StandsAt block'.instrs n (store_if q temp ++ stores (suc temp) r b k rest) → slice_index f'.registers r ≡ v → r < n → Ready m' block' moves number (StoreStage x) globals f f' → ((g : Frame) → Stored (store_if q temp ++ stores (suc temp) r b k rest) n g → ComesTo g) → ComesTo f'
        one_store move rest x there runs true is n temp f' at len stands value lt ready next =
            let behind = stores (suc temp) r b k rest in
            let g = past (record f' { variables = slice_set f'.variables temp v }) 0 in
            let further = further_past f' f'.variables 0 f' (further_none f') 0 (slice_set f'.variables temp v) in
            let ready' : Ready m' block' moves number (StoreStage (suc x)) globals f g =
            ready_set m' block' moves number (StoreStage x) (StoreStage (suc x)) globals f f' g ready x temp v 1 move there at (values x move there is) further
            (λ i other at' ne l. (l.0, λ le. l.1 (omega (arith, le, ne)))) in
            comes_goes (frames_of m) (frames_of m') related globals f f' g None
            (acts m' block' globals f' (store_to r temp) ready.here (ap (slice_get block'.instrs) len ∙ stands.0)
            ∙ ap (λ w. Goes None (past (record f' { variables = slice_set f'.variables temp w }) 0) globals) value)
            (runs (suc n) (suc temp) g (omega (arith, at)) (omega (arith, length-append f'.registers (0 ∷ []), len)) stands.1
            (get_or_append_left f'.registers (0 ∷ []) 0 r (omega (arith, lt, len)) ∙ value) (omega (arith, lt)) ready'
            (λ h stored. next h (stored.0, omega (arith, stored.1))))
        one_store move rest x there runs false is n temp f' at len stands value lt ready next =
            runs n (suc temp) f' (omega (arith, at)) len stands value lt
            (ready_by m' block' moves number (StoreStage x) (StoreStage (suc x)) globals f f' ready
            (λ i other at' l. (
              l.0,
              λ le. ⊎_elim
                  (λ (e' : i ≡ x).
                  let both : Some move ≡ Some other = sym there ∙ ap (slice_get moves) (sym e') ∙ at' in
                  let same : move ≡ other = cc in
                  ap (λ o. is_stored o b k) (sym same) ∙ is)
                  (λ (ne : i ≡ x → ⊥). l.1 (omega (arith, le, ne)))
                  (cases_eq i x),
            )))
            (λ h stored. next h (stored.0, stored.1))

        pub stores_run : (rest : List Move) (x : ℕ) → ((i : ℕ) → slice_get rest i ≡ slice_get moves (x + i)) → RunsStores rest x
        stores_run [] x suffix n temp f' at len stands value lt ready next =
            next f' (
              ready_by m' block' moves number (StoreStage x) (λ i move. Live move) globals f f' ready
                  (λ i move there live. (
                    live,
                    λ le.
                        let e : x + (i - x) ≡ i = omega (arith, le) in
                        let none : None ≡ Some move = suffix (i - x) ∙ ap (slice_get moves) e ∙ there in
                        absurd cc,
                  )),
              omega (arith, len),
            )
        stores_run (move ∷ rest) x suffix n temp f' at len stands value lt ready next =
            let e : x + 0 ≡ x = omega arith in
            let there : slice_get moves x ≡ Some move = sym (suffix 0 ∙ ap (slice_get moves) e) in
            one_store move rest x there
            (stores_run rest (suc x) (λ i. let e' : x + suc i ≡ suc x + i = omega arith in suffix (suc i) ∙ ap (slice_get moves) e'))
            (is_stored move b k) refl n temp f' at len stands value lt ready next
