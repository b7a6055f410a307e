-- What a walk finds, block by block.
use Rattle.std.proofs.Common.{◌≡◌, ℕ, zero, suc, ◌+◌, ◌<◌, ◌≤◌, ◌^◌, Bool, true, false, List, [], ◌∷◌, ◌++◌, length, map, take, get_or, Option, Some, None, refl, sym, ap, ◌∙◌, subst, arith, inl, inr, ◌⊎◌, ⊎_elim}
use Rattle.std.specs.Prelude.{slice_get, flat_map, All, Contains, if◌then◌else◌, filter, filter_map, OnOk, Result, Ok, Err}
use Rattle.std.specs.List.{AllZip, list_any, range_with_len}
use Rattle.std.specs.Option.{option_map_or}
use Rattle.std.proofs.lemmas.Bool.{true≢false}
use Rattle.std.proofs.lemmas.List.{append-nil, length-append, length-map, length_push, map-append, take_more}
use Rattle.std.proofs.lemmas.List.Concat.{flat_map-append}
use Rattle.std.proofs.lemmas.List.Elements.{All-push, All-same, filter_passes}
use Rattle.std.proofs.lemmas.List.FromFn.{length-map-range_with_len, map-range_with_len_more}
use Rattle.std.proofs.lemmas.List.Folds.{list_any_at}
use Rattle.std.proofs.lemmas.Option.{slice_get_within, get_or_from_slice_get}
use Rattle.indexmap.specs.IndexSet.{insert_key}
use Rattle.indexmap.proofs.CallerLemmas.{Contains-list_any}
use Rattle.ir_types.specs.Program.{Program}
use Rattle.ir_types.specs.WellFormed.{IsFunctionIn}
use Rattle.ir_types.specs.declared.syntax.Instr.{Instr as InstrType}
use Rattle.ir_types.specs.declared.syntax.Block.{Block}
use Rattle.ir_types.specs.declared.syntax.Function.{Function}
use Rattle.point_graph.specs.Numbers.{AreReachedBlocks, of_block, block_points, all_points}
use Rattle.point_graph.specs.declared.graph.Point.{Point}
use Rattle.point_graph.specs.declared.graph.Point.TheVariants.{Head, Instr, Start, Term}
use Rattle.point_graph.specs.declared.graph.Points.{Points}
use Rattle.expressions.specs.declared.syntax.Expr.{Expr}
use Rattle.expressions.specs.contracts.syntax.ExprPartialEq.TheImpl.{eq-value}
use Rattle.expressions.specs.Expressions.{content_expr, expr_at, expr_by, instr_there, nothing, place_content, term_there}
use Rattle.expressions.specs.Kept.{IsSound, Kept}
use Rattle.expressions.specs.Tables.{AreFirstSeen, IsNumberOf, IsTable}
use Rattle.expressions.specs.Tracking.{Tracked, Tracks, arg_now}
use Rattle.expressions.specs.Walking.{Seen, Joined, AddsNumber, AddsOne, AddsAll, place_expr, block_exprs, IsSoundIfAny, IsFit}
use Rattle.expressions.proofs.FirstSeen.{adds_append, adds_length, adds_push, built_all, built_nil, filter_map-map, zip_map}
use Rattle.expressions.proofs.Same.{same_expr, same_itself}
use Rattle.expressions.proofs.Tracks.{args_same}

-- ---- one expression

any_contains : (xs : List Expr) (e : Expr) → Contains xs e → list_any (eq-value.it e) xs ≡ true
any_contains xs e h = list_any_at (eq-value.it e) xs h.0 e h.1 (ap (eq-value.it e) h.2 ∙ same_itself e)

joined_by : (old new : List Expr) (e : Expr) (there : Bool) → list_any (eq-value.it e) old ≡ there → new ≡ (if there then old else old ++ e ∷ []) → Joined old (Some e) new
joined_by old new e true h same = inl (Contains-list_any eq-value.it same_expr old e h, same)
joined_by old new e false h same = inr (λ contains. true≢false (sym (any_contains old e contains) ∙ h), same)

pub adds_some : (old new : List Expr) (e stored : Expr) (x : ℕ) → new ≡ insert_key eq-value.it old e → slice_get new x ≡ Some stored → eq-value.it e stored ≡ true → AddsNumber (Some e) old new (Some x)
adds_some old new e stored x same there equal = record {
  joined = joined_by old new e (list_any (eq-value.it e) old) refl same;
  number = there ∙ ap Some (sym (same_expr e stored equal));
}

pub sound_joined : (old new : List Expr) (e : Expr) → Joined old (Some e) new → All IsSound old → IsSound e → All IsSound new
sound_joined old new e (inl again) all sound = subst (All IsSound) (sym again.1) all
sound_joined old new e (inr more) all sound = subst (All IsSound) (sym more.1) (All-push IsSound old e all sound)

-- ---- one block

map-map : {A B C : Type 0} (g : B → C) (h : A → B) (xs : List A) → map g (map h xs) ≡ map (λ x. g (h x)) xs
map-map g h [] = refl
map-map g h (x ∷ xs) = ap (λ l. g (h x) ∷ l) (map-map g h xs)

map-same : {A B : Type 0} (g h : A → B) → ((x : A) → g x ≡ h x) → (xs : List A) → map g xs ≡ map h xs
map-same g h same [] = refl
map-same g h same (x ∷ xs) = ap (λ y. y ∷ map g xs) (same x) ∙ ap (λ l. h x ∷ l) (map-same g h same xs)

-- what occurs at the points of a block
pub block_exprs_are : (m : Program) (f : Function) (b : ℕ) (block : Block) → slice_get f.blocks b ≡ Some block → map (expr_at m f) (block_points b block) ≡ block_exprs m block
block_exprs_are m f b block there =
    let numbers = range_with_len 0 (length block.instrs) in
    let at : (k : ℕ) → expr_at m f (Instr b k) ≡ place_expr m block k = λ k. ap (λ o. content_expr m (option_map_or (λ x. place_content x k) o nothing)) there in
    let term : expr_at m f (Term b) ≡ None = ap (λ o. content_expr m (option_map_or (λ x. term_there x.term) o nothing)) there in
    ap (λ l. None ∷ l)
    (map-append (expr_at m f) (map (Instr b) numbers) (Term b ∷ [])
    ∙ ap (λ l. l ++ expr_at m f (Term b) ∷ []) (map-map (expr_at m f) (Instr b) numbers ∙ map-same (λ k. expr_at m f (Instr b k)) (place_expr m block) at numbers)
    ∙ ap (λ e. map (place_expr m block) numbers ++ e ∷ []) term)

pub length-block_exprs : (m : Program) (block : Block) → length (block_exprs m block) ≡ length block.instrs + 2
length-block_exprs m block =
    let places = map (place_expr m block) (range_with_len 0 (length block.instrs)) in
    omega (arith, length-append places (None ∷ []), length-map-range_with_len (place_expr m block) 0 (length block.instrs))

-- what was found of an instruction is what occurs there
pub place_found : (m : Program) (block : Block) (k : ℕ) (i : InstrType) (first : ℕ) (s : Tracked) (before : List InstrType) (e : Option Expr) → slice_get block.instrs k ≡ Some i → before ≡ take k block.instrs
    → Tracks m (take k block.instrs) first s → e ≡ expr_by (arg_now s first before) i.kind → e ≡ place_expr m block k
place_found m block k i first s before e there same tracks is =
    is
    ∙ ap (λ l. expr_by (arg_now s first l) i.kind) same
    ∙ ap (λ g. expr_by g i.kind) (args_same m (take k block.instrs) first s tracks)
    ∙ sym (ap (λ o. content_expr m (option_map_or (λ (j : InstrType). instr_there (take k block.instrs) j.kind) o nothing)) there)

pub adds_more : (g : ℕ → Option Expr) (k : ℕ) (a s t : Seen) → AddsAll (None ∷ map g (range_with_len 0 k)) a s → AddsOne (g k) s t → AddsAll (None ∷ map g (range_with_len 0 (k + 1))) a t
adds_more g k a s t before adds =
    let more : map g (range_with_len 0 (k + 1)) ≡ map g (range_with_len 0 k) ++ g k ∷ [] = map-range_with_len_more g 0 k k (omega arith) in
    subst (λ l. AddsAll (None ∷ l) a t) (sym more) (adds_push (None ∷ map g (range_with_len 0 k)) (g k) a s t before adds)

pub adds_end : (g : ℕ → Option Expr) (k n : ℕ) (a s t : Seen) → k ≡ n → AddsAll (None ∷ map g (range_with_len 0 k)) a s → AddsOne None s t → AddsAll (None ∷ map g (range_with_len 0 n) ++ None ∷ []) a t
adds_end g k n a s t same before adds =
    subst (λ j. AddsAll (None ∷ map g (range_with_len 0 j) ++ None ∷ []) a t) same (adds_push (None ∷ map g (range_with_len 0 k)) None a s t before adds)

pub length_one : (e : Option Expr) (s t : Seen) → AddsOne e s t → length t.occurring ≡ length s.occurring + 1
length_one e s t adds = ap length adds.occurring ∙ length_push s.occurring adds.x

-- ---- results

pub on_ok : {T E : Type 0} (r : Result T E) (P : Type 0) → P → OnOk r P
on_ok (Ok x) P p = p
on_ok (Err e) P p = tt

pub on_ok_by : {T E : Type 0} (r : Result T E) (P Q : Type 0) → OnOk r P → (P → Q) → OnOk r Q
on_ok_by (Ok x) P Q p by = by p
on_ok_by (Err e) P Q p by = tt

pub on_ok_both : {T E : Type 0} (r : Result T E) (P Q R : Type 0) → OnOk r P → OnOk r Q → (P → Q → R) → OnOk r R
on_ok_both (Ok x) P Q R p q by = by p q
on_ok_both (Err e) P Q R p q by = tt

-- ---- all blocks

-- the points up to one block more
pub points_more : (f : Function) (blocks : List ℕ) (i b : ℕ) (block : Block) → i < length blocks → get_or blocks i b ≡ b → slice_get f.blocks b ≡ Some block
    → all_points f (take (i + 1) blocks) ≡ all_points f (take i blocks) ++ block_points b block
points_more f blocks i b block lt at there =
    let more : take (i + 1) blocks ≡ take i blocks ++ b ∷ [] = take_more blocks i b lt ∙ ap (λ c. take i blocks ++ c ∷ []) at in
    ap (all_points f) more
    ∙ ap (λ l. Start ∷ l)
    (flat_map-append (of_block block_points f) (take i blocks) (b ∷ [])
    ∙ ap (λ l. flat_map (of_block block_points f) (take i blocks) ++ l)
    (append-nil (of_block block_points f b) ∙ ap (λ o. option_map_or (block_points b) o []) there))

pub walked_more : (m : Program) (f : Function) (blocks : List ℕ) (i b : ℕ) (block : Block) (a s t : Seen) → i < length blocks → get_or blocks i b ≡ b → slice_get f.blocks b ≡ Some block
    → AddsAll (map (expr_at m f) (all_points f (take i blocks))) a s → AddsAll (block_exprs m block) s t → AddsAll (map (expr_at m f) (all_points f (take (i + 1) blocks))) a t
walked_more m f blocks i b block a s t lt at there before adds =
    let split : map (expr_at m f) (all_points f (take (i + 1) blocks)) ≡ map (expr_at m f) (all_points f (take i blocks)) ++ block_exprs m block =
    ap (map (expr_at m f)) (points_more f blocks i b block lt at there)
    ∙ map-append (expr_at m f) (all_points f (take i blocks)) (block_points b block)
    ∙ ap (λ l. map (expr_at m f) (all_points f (take i blocks)) ++ l) (block_exprs_are m f b block there) in
    subst (λ l. AddsAll l a t) (sym split) (adds_append (map (expr_at m f) (all_points f (take i blocks))) (block_exprs m block) a s t before adds)

-- the first of some blocks have no more points than all of them
pub points_front : (f : Function) (blocks : List ℕ) (n : ℕ) → length (all_points f (take n blocks)) ≤ length (all_points f blocks)
points_front f blocks zero = omega arith
points_front f [] (suc n) = omega arith
points_front f (b ∷ blocks) (suc n) =
    omega (arith, points_front f blocks n, length-append (of_block block_points f b) (flat_map (of_block block_points f) (take n blocks)), length-append (of_block block_points f b) (flat_map (of_block block_points f) blocks))

pub room_for : (m : Program) (f : Function) (blocks : List ℕ) (i b : ℕ) (block : Block) (s : Seen) → i < length blocks → get_or blocks i b ≡ b → slice_get f.blocks b ≡ Some block
    → length (all_points f blocks) < 2 ^ 20 → AddsAll (map (expr_at m f) (all_points f (take i blocks))) (record { exprs = []; occurring = [] }) s
    → length s.occurring + length block.instrs + 2 < 2 ^ 32
room_for m f blocks i b block s lt at there few adds =
    let so_far = adds_length (map (expr_at m f) (all_points f (take i blocks))) (record { exprs = []; occurring = [] }) s adds in
    let points = length-map (all_points f (take i blocks)) (expr_at m f) in
    let more = ap length (points_more f blocks i b block lt at there) ∙ length-append (all_points f (take i blocks)) (block_points b block) in
    let here = ap length (block_exprs_are m f b block there) in
    let there = length-map (block_points b block) (expr_at m f) in
    omega (arith, so_far, points, more, here, there, length-block_exprs m block, points_front f blocks (i + 1), few)

-- ---- the table

-- the listed blocks are blocks of the function
pub blocks_inside : (f : Function) (blocks : List ℕ) → AreReachedBlocks f blocks → All (λ b. b < length f.blocks) blocks
blocks_inside f blocks reached = All-same (λ b. b < length f.blocks) blocks (filter reached.test (range_with_len 0 (length f.blocks))) reached.listed
    (λ k d lt. ((reached.told _).0 (filter_passes reached.test (range_with_len 0 (length f.blocks)) k d lt)).inside)

-- as many were passed as there are points
pub passed_all : (m : Program) (f : Function) (blocks : List ℕ) (s : Seen) → AddsAll (map (expr_at m f) (all_points f blocks)) (record { exprs = []; occurring = [] }) s → length s.occurring ≡ length (all_points f blocks)
passed_all m f blocks s adds =
    omega (arith, adds_length (map (expr_at m f) (all_points f blocks)) (record { exprs = []; occurring = [] }) s adds, length-map (all_points f blocks) (expr_at m f))

pub table_is : (m : Program) (f : Function) (p : Points) (exprs : List Expr) (occurring : List (Option ℕ)) → IsFunctionIn m f
    → AddsAll (map (expr_at m f) p.points) (record { exprs = []; occurring = [] }) (record { exprs = exprs; occurring = occurring })
    → IsTable f p (record { module_of = m; exprs = exprs; occurring = occurring })
table_is m f p exprs occurring rules adds =
    let built = built_all [] (map (expr_at m f) p.points) (record { exprs = []; occurring = [] }) (record { exprs = exprs; occurring = occurring }) built_nil adds in
    record {
      rules = rules;
      exprs = subst (λ l. AreFirstSeen l exprs) (filter_map-map (expr_at m f) p.points) built.seen;
      occurring = zip_map (IsNumberOf exprs) (expr_at m f) p.points occurring built.numbered;
    }
