-- What moves do at a place, with one move more.
use Rattle.std.proofs.Common.{◌≡◌, ℕ, suc, ◌+◌, Bool, true, false, if◌then◌else◌, List, [], ◌∷◌, ◌++◌, length, refl, sym, ap, ◌∙◌, arith}
use Rattle.std.proofs.lemmas.List.{append-nil, append_assoc}
use Rattle.ir_types.specs.declared.syntax.Instr.{Instr}
use Rattle.ir_types.specs.declared.syntax.Kind.TheVariants.{Load}
use Rattle.ir_types.specs.declared.syntax.Variable.TheVariants.{Local}
use Rattle.point_graph.specs.Graph.{Place, Edge}
use Rattle.applied.specs.Motion.{Move}
use Rattle.applied.specs.Renamed.{renamed_kind}
use Rattle.applied.specs.Applied.{copied, is_stored, stores, store_to}
use Rattle.changes.specs.Changed.{IsAction, inserting}
use Rattle.changes.specs.declared.lists.Action.{Action}
use Rattle.changes.specs.declared.lists.Action.TheVariants.{Stays, Loads, Stores}

-- ---- edges

abbrev insert_if : Bool → ℕ → List ℕ
insert_if bit j = if bit then j ∷ [] else []

inserting_from : (j : ℕ) (edge : Edge) (moves : List Move) (m : Move) → inserting j edge (moves ++ m ∷ []) ≡ inserting j edge moves ++ insert_if (m.inserted edge) (j + length moves)
inserting_from j edge [] m =
    let z : j ≡ j + 0 = omega arith in
    append-nil (insert_if (m.inserted edge) j) ∙ ap (insert_if (m.inserted edge)) z
inserting_from j edge (n ∷ moves) m =
    let z : suc j + length moves ≡ j + suc (length moves) = omega arith in
    ap (λ l. insert_if (n.inserted edge) j ++ l) (inserting_from (suc j) edge moves m ∙ ap (λ k. inserting (suc j) edge moves ++ insert_if (m.inserted edge) k) z)
    ∙ sym (append_assoc (insert_if (n.inserted edge) j) (inserting (suc j) edge moves) (insert_if (m.inserted edge) (j + suc (length moves))))

pub inserting_push : (edge : Edge) (moves : List Move) (m : Move) → inserting 0 edge (moves ++ m ∷ []) ≡ inserting 0 edge moves ++ insert_if (m.inserted edge) (length moves)
inserting_push edge moves m = let z : 0 + length moves ≡ length moves = omega arith in inserting_from 0 edge moves m ∙ ap (λ k. inserting 0 edge moves ++ insert_if (m.inserted edge) k) z

-- none of them inserts on the edge
abbrev pub NoneInserts : Edge → List Move → Type 0
NoneInserts edge [] = Unit {0}
NoneInserts edge (m ∷ moves) = (m.inserted edge ≡ false) × NoneInserts edge moves

pub inserting_none : (j : ℕ) (edge : Edge) (moves : List Move) → NoneInserts edge moves → inserting j edge moves ≡ []
inserting_none j edge [] none = refl
inserting_none j edge (m ∷ moves) none = ap (λ b. insert_if b j ++ inserting (suc j) edge moves) none.0 ∙ inserting_none (suc j) edge moves none.1

-- ---- places

-- the moves do nothing at the place
abbrev pub AreQuiet : ℕ → ℕ → List Move → Type 0
AreQuiet b k [] = Unit {0}
AreQuiet b k (m ∷ moves) = (m.deleted (Place b k) ≡ false) × (is_stored m b k ≡ false) × AreQuiet b k moves

module _ (b k : ℕ) (number : ℕ → ℕ) (instr : Instr) where
  abbrev plain : Instr
  plain = record { result = instr.result; kind = renamed_kind number instr.kind }

  abbrev loaded : ℕ → Instr
  loaded temp = record { result = instr.result; kind = Load (Local temp) }

  copied_plain : (temp : ℕ) (moves : List Move) → AreQuiet b k moves → copied temp number (Place b k) instr moves ≡ plain
  copied_plain temp [] quiet = refl
  copied_plain temp (m ∷ moves) quiet = ap (λ d. if d then loaded temp else copied (suc temp) number (Place b k) instr moves) quiet.0 ∙ copied_plain (suc temp) moves quiet.2

  -- the last one doesn't delete
  copied_same : (temp : ℕ) (moves : List Move) (m : Move) → m.deleted (Place b k) ≡ false → copied temp number (Place b k) instr (moves ++ m ∷ []) ≡ copied temp number (Place b k) instr moves
  copied_same temp [] m none = ap (λ d. if d then loaded temp else plain) none
  copied_same temp (n ∷ moves) m none = ap (λ i. if n.deleted (Place b k) then loaded temp else i) (copied_same (suc temp) moves m none)

  -- the last one alone deletes
  copied_last : (temp : ℕ) (moves : List Move) (m : Move) → AreQuiet b k moves → m.deleted (Place b k) ≡ true → copied temp number (Place b k) instr (moves ++ m ∷ []) ≡ loaded (temp + length moves)
  copied_last temp [] m quiet deletes =
      let z : temp ≡ temp + 0 = omega arith in ap (λ d. if d then loaded temp else plain) deletes ∙ ap loaded z
  copied_last temp (n ∷ moves) m quiet deletes =
      let z : suc temp + length moves ≡ temp + suc (length moves) = omega arith in
      ap (λ d. if d then loaded temp else copied (suc temp) number (Place b k) instr (moves ++ m ∷ [])) quiet.0
      ∙ copied_last (suc temp) moves m quiet.2 deletes ∙ ap loaded z

module _ (b k n : ℕ) where
  abbrev store_if : Bool → ℕ → List Instr
  store_if bit temp = if bit then store_to n temp ∷ [] else []

  stores_more : (temp : ℕ) (moves : List Move) (m : Move) → stores temp n b k (moves ++ m ∷ []) ≡ stores temp n b k moves ++ store_if (is_stored m b k) (temp + length moves)
  stores_more temp [] m =
      let z : temp ≡ temp + 0 = omega arith in
      append-nil (store_if (is_stored m b k) temp) ∙ ap (store_if (is_stored m b k)) z
  stores_more temp (o ∷ moves) m =
      let z : suc temp + length moves ≡ temp + suc (length moves) = omega arith in
      ap (λ l. store_if (is_stored o b k) temp ++ l) (stores_more (suc temp) moves m ∙ ap (λ j. stores (suc temp) n b k moves ++ store_if (is_stored m b k) j) z)
      ∙ sym (append_assoc (store_if (is_stored o b k) temp) (stores (suc temp) n b k moves) (store_if (is_stored m b k) (temp + suc (length moves))))

  stores_none : (temp : ℕ) (moves : List Move) → AreQuiet b k moves → stores temp n b k moves ≡ []
  stores_none temp [] quiet = refl
  stores_none temp (m ∷ moves) quiet = ap (λ bit. store_if bit temp ++ stores (suc temp) n b k moves) quiet.1 ∙ stores_none (suc temp) moves quiet.2

module _ (b k : ℕ) (moves : List Move) where
  pub action_none : AreQuiet b k moves → IsAction moves b k Stays
  action_none quiet = record {
    copies = λ temp number instr. copied_plain b k number instr temp moves quiet;
    adds = λ temp n. stores_none b k n temp moves quiet;
  }

  module _ (m : Move) where
    pub action_same : (action : Action) → IsAction moves b k action → m.deleted (Place b k) ≡ false → is_stored m b k ≡ false → IsAction (moves ++ m ∷ []) b k action
    action_same action is deletes stored = record {
      copies = λ temp number instr. copied_same b k number instr temp moves m deletes ∙ is.copies temp number instr;
      adds = λ temp n.
          stores_more b k n temp moves m
          ∙ ap (λ bit. stores temp n b k moves ++ (if bit then store_to n (temp + length moves) ∷ [] else [])) stored
          ∙ append-nil (stores temp n b k moves)
          ∙ is.adds temp n;
    }

    pub action_loads : AreQuiet b k moves → m.deleted (Place b k) ≡ true → is_stored m b k ≡ false → IsAction (moves ++ m ∷ []) b k (Loads (length moves))
    action_loads quiet deletes stored = record {
      copies = λ temp number instr. copied_last b k number instr temp moves m quiet deletes;
      adds = λ temp n.
          stores_more b k n temp moves m
          ∙ ap (λ bit. stores temp n b k moves ++ (if bit then store_to n (temp + length moves) ∷ [] else [])) stored
          ∙ append-nil (stores temp n b k moves)
          ∙ stores_none b k n temp moves quiet;
    }

    pub action_stores : AreQuiet b k moves → m.deleted (Place b k) ≡ false → is_stored m b k ≡ true → IsAction (moves ++ m ∷ []) b k (Stores (length moves))
    action_stores quiet deletes stored = record {
      copies = λ temp number instr. copied_same b k number instr temp moves m deletes ∙ copied_plain b k number instr temp moves quiet;
      adds = λ temp n.
          stores_more b k n temp moves m
          ∙ ap (λ bit. stores temp n b k moves ++ (if bit then store_to n (temp + length moves) ∷ [] else [])) stored
          ∙ ap (λ l. l ++ store_to n (temp + length moves) ∷ []) (stores_none b k n temp moves quiet);
    }
