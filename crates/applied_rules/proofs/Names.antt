-- The names of the new blocks and of the new function, tagged.
use Rattle.std.proofs.Common.{◌≡◌, ℕ, suc, Bool, true, false, if◌then◌else◌, List, [], ◌∷◌, ◌++◌, length, map, Option, Some, None, refl, sym, ap, ◌∙◌, append_assoc}
use Rattle.std.specs.Prelude.{filter_map}
use Rattle.std.specs.List.{cons_option}
use Rattle.std.proofs.lemmas.List.{map-append, append-nil}
use Rattle.std.proofs.lemmas.List.Concat.{flat_map-append}
use Rattle.std.proofs.lemmas.List.Elements.{filter_map-append}
use Rattle.mc_num.specs.declared.op.Width.{Width}
use Rattle.ir_types.specs.WellFormed.{targets, result_names, block_names, body_names, names}
use Rattle.ir_types.specs.declared.name.Made.{Made}
use Rattle.ir_types.specs.declared.name.Made.TheVariants.{Temp, Split}
use Rattle.ir_types.specs.declared.name.Name.{Name}
use Rattle.ir_types.specs.declared.syntax.Instr.{Instr}
use Rattle.ir_types.specs.declared.syntax.Block.{Block}
use Rattle.ir_types.specs.declared.syntax.Function.{Function}
use Rattle.point_graph.specs.Graph.{Place, Slot}
use Rattle.applied.specs.Motion.{Move}
use Rattle.applied.specs.Applied.{Naming, made, groups_along, edges_before, copied, store_to, is_stored, stores, has_groups, Layout, is_single, split_block, temporaries}
use Rattle.applied.specs.Built.{text_from, start_of, number_of, split_one, splits_from, split_blocks, new_blocks, layout_of}
use Rattle.applied_rules.proofs.Texts.{copied_result}
use Rattle.applied_rules.proofs.Tags.{Tag, Old, untagged, olds, news, olds_append, news_append, all_old, all_new, olds_old, news_old, olds_new, news_new, untagged_old, edge_mades, along_mades, edge_results, along_results}

abbrev pub old_result : Option Name → List Tag
old_result None = []
old_result (Some name) = Old name ∷ []

abbrev results : List Instr → List Name
results instrs = filter_map (λ i. i.result) instrs

module _ (naming : Naming) (moves : List Move) where
  abbrev names_of : List Tag → List Name
  names_of tags = map (untagged naming.prefix) tags

  names_new : (mades : List Made) → names_of (all_new mades) ≡ map (made naming) mades
  names_new [] = refl
  names_new (what ∷ mades) = ap (λ l. made naming what ∷ l) (names_new mades)

  -- ---- the text of a block

  abbrev pub text_mades : ℕ → Block → ℕ → List Instr → List Made
  text_mades b block k [] = along_mades naming (edges_before b k block) moves
  text_mades b block k (instr ∷ instrs) = along_mades naming (edges_before b k block) moves ++ text_mades b block (suc k) instrs

  abbrev text_tags : ℕ → Block → ℕ → List Instr → List Tag
  text_tags b block k [] = all_new (along_mades naming (edges_before b k block) moves)
  text_tags b block k (instr ∷ instrs) =
      all_new (along_mades naming (edges_before b k block) moves) ++ (old_result instr.result ++ text_tags b block (suc k) instrs)

  store_results : (temp n b k : ℕ) (rest : List Move) (behind : List Instr) → results (stores temp n b k rest ++ behind) ≡ results behind
  store_results temp n b k [] behind = refl
  store_results temp n b k (move ∷ rest) behind = by (is_stored move b k) (store_results (suc temp) n b k rest behind)
    where
      by : (q : Bool) → results (stores (suc temp) n b k rest ++ behind) ≡ results behind → results (((if q then store_to n temp ∷ [] else []) ++ stores (suc temp) n b k rest) ++ behind) ≡ results behind
      by true e = e
      by false e = e

  names_cons : (o : Option Name) (rest : List Name) (tags : List Tag) → rest ≡ names_of tags → cons_option o rest ≡ names_of (old_result o ++ tags)
  names_cons None rest tags e = e
  names_cons (Some name) rest tags e = ap (λ l. name ∷ l) e

  olds_cons : (o : Option Name) (tags : List Tag) (rest : List Name) → olds tags ≡ rest → olds (old_result o ++ tags) ≡ cons_option o rest
  olds_cons None tags rest e = e
  olds_cons (Some name) tags rest e = ap (λ l. name ∷ l) e

  news_cons : (o : Option Name) (tags : List Tag) → news (old_result o ++ tags) ≡ news tags
  news_cons None tags = refl
  news_cons (Some name) tags = refl

  text_results : (vars b : ℕ) (block : Block) (k : ℕ) (instrs : List Instr) → results (text_from naming moves vars b block k instrs) ≡ names_of (text_tags b block k instrs)
  text_results vars b block k [] =
      along_results naming (edges_before b k block) (start_of naming moves vars b block k) vars moves ∙ sym (names_new (along_mades naming (edges_before b k block) moves))
  text_results vars b block k (instr ∷ instrs) =
      let edges = edges_before b k block in
      let start = start_of naming moves vars b block k in
      let number = number_of naming moves vars b block in
      let here = groups_along naming start vars edges moves in
      let copy = copied vars number (Place b k) instr moves in
      let rest = text_from naming moves vars b block (suc k) instrs in
      let behind = stores vars (number k) b k moves ++ rest in
      let mades = along_mades naming edges moves in
      let tags = old_result instr.result ++ text_tags b block (suc k) instrs in
      filter_map-append (λ i. i.result) here (copy ∷ behind)
      ∙ ap (λ l. l ++ results (copy ∷ behind)) (along_results naming edges start vars moves ∙ sym (names_new mades))
      ∙ ap (λ o. names_of (all_new mades) ++ cons_option o (results behind)) (copied_result vars number (Place b k) instr moves)
      ∙ ap (λ l. names_of (all_new mades) ++ cons_option instr.result l) (store_results vars (number k) b k moves rest)
      ∙ ap (λ l. names_of (all_new mades) ++ l) (names_cons instr.result (results rest) (text_tags b block (suc k) instrs) (text_results vars b block (suc k) instrs))
      ∙ sym (map-append (untagged naming.prefix) (all_new mades) tags)

  text_olds : (b : ℕ) (block : Block) (k : ℕ) (instrs : List Instr) → olds (text_tags b block k instrs) ≡ results instrs
  text_olds b block k [] = olds_new (along_mades naming (edges_before b k block) moves)
  text_olds b block k (instr ∷ instrs) =
      let mades = along_mades naming (edges_before b k block) moves in
      let tags = old_result instr.result ++ text_tags b block (suc k) instrs in
      olds_append (all_new mades) tags ∙ ap (λ l. l ++ olds tags) (olds_new mades)
      ∙ olds_cons instr.result (text_tags b block (suc k) instrs) (results instrs) (text_olds b block (suc k) instrs)

  text_news : (b : ℕ) (block : Block) (k : ℕ) (instrs : List Instr) → news (text_tags b block k instrs) ≡ text_mades b block k instrs
  text_news b block k [] = news_new (along_mades naming (edges_before b k block) moves)
  text_news b block k (instr ∷ instrs) =
      let mades = along_mades naming (edges_before b k block) moves in
      let tags = old_result instr.result ++ text_tags b block (suc k) instrs in
      news_append (all_new mades) tags ∙ ap (λ l. l ++ news tags) (news_new mades)
      ∙ ap (λ l. mades ++ l) (news_cons instr.result (text_tags b block (suc k) instrs) ∙ text_news b block (suc k) instrs)

  -- ---- split blocks

  abbrev pub one_split_mades : ℕ → Bool → ℕ → List Made
  one_split_mades b single slot =
      if single then [] else (if has_groups (Slot b slot) moves then Split (naming.edge_number (Slot b slot)) ∷ edge_mades naming (Slot b slot) moves else [])

  abbrev pub split_mades : ℕ → Bool → ℕ → List ℕ → List Made
  split_mades b single slot [] = []
  split_mades b single slot (target ∷ rest) = one_split_mades b single slot ++ split_mades b single (suc slot) rest

  one_split_names : (vars : ℕ) (layout : Layout) (b : ℕ) (single : Bool) (slot target : ℕ) → block_names (split_one naming moves vars layout b single slot target) ≡ map (made naming) (one_split_mades b single slot)
  one_split_names vars layout b true slot target = refl
  one_split_names vars layout b false slot target = by (has_groups (Slot b slot) moves)
    where
      by : (q : Bool) → block_names (if q then split_block naming vars (Slot b slot) (layout.home target) moves ∷ [] else []) ≡ map (made naming) (if q then Split (naming.edge_number (Slot b slot)) ∷ edge_mades naming (Slot b slot) moves else [])
      by true = append-nil _ ∙ ap (λ l. made naming (Split (naming.edge_number (Slot b slot))) ∷ l) (edge_results naming (Slot b slot) 0 vars moves)
      by false = refl

  split_names : (vars : ℕ) (layout : Layout) (b : ℕ) (single : Bool) (slot : ℕ) (rest : List ℕ) → block_names (splits_from naming moves vars layout b single slot rest) ≡ map (made naming) (split_mades b single slot rest)
  split_names vars layout b single slot [] = refl
  split_names vars layout b single slot (target ∷ rest) =
      let first = split_one naming moves vars layout b single slot target in
      let others = splits_from naming moves vars layout b single (suc slot) rest in
      flat_map-append (λ x. x.name ∷ result_names x) first others
      ∙ ap (λ l. l ++ block_names others) (one_split_names vars layout b single slot target)
      ∙ ap (λ l. map (made naming) (one_split_mades b single slot) ++ l) (split_names vars layout b single (suc slot) rest)
      ∙ sym (map-append (made naming) (one_split_mades b single slot) (split_mades b single (suc slot) rest))

  -- ---- blocks

  -- what is made in a block and in the blocks that split its slots
  abbrev pub block_mades : ℕ → Block → List Made
  block_mades b block = text_mades b block 0 block.instrs ++ split_mades b (is_single block.term) 0 (targets block.term)

  abbrev pub blocks_mades : ℕ → List Block → List Made
  blocks_mades b [] = []
  blocks_mades b (block ∷ blocks) = block_mades b block ++ blocks_mades (suc b) blocks

  -- the results of a block, and the names of what stands behind it
  abbrev behind_tags : ℕ → Block → List Tag → List Tag
  behind_tags b block rest = text_tags b block 0 block.instrs ++ (all_new (split_mades b (is_single block.term) 0 (targets block.term)) ++ rest)

  abbrev blocks_tags : ℕ → List Block → List Tag
  blocks_tags b [] = []
  blocks_tags b (block ∷ blocks) = Old block.name ∷ behind_tags b block (blocks_tags (suc b) blocks)

  behind_names : (vars : ℕ) (layout : Layout) (b : ℕ) (block : Block) (blocks : List Block) (rest : List Tag) → block_names blocks ≡ names_of rest → results (text_from naming moves vars b block 0 block.instrs) ++ block_names (split_blocks naming moves vars layout b block.term ++ blocks) ≡ names_of (behind_tags b block rest)
  behind_names vars layout b block blocks rest e =
      let text = text_tags b block 0 block.instrs in
      let mades = split_mades b (is_single block.term) 0 (targets block.term) in
      let splits = split_blocks naming moves vars layout b block.term in
      ap (λ l. l ++ block_names (splits ++ blocks)) (text_results vars b block 0 block.instrs)
      ∙ ap (λ l. names_of text ++ l) (flat_map-append (λ x. x.name ∷ result_names x) splits blocks)
      ∙ ap (λ l. names_of text ++ (l ++ block_names blocks)) (split_names vars layout b (is_single block.term) 0 (targets block.term) ∙ sym (names_new mades))
      ∙ ap (λ l. names_of text ++ (names_of (all_new mades) ++ l)) e
      ∙ ap (λ l. names_of text ++ l) (sym (map-append (untagged naming.prefix) (all_new mades) rest))
      ∙ sym (map-append (untagged naming.prefix) text (all_new mades ++ rest))

  blocks_names : (vars : ℕ) (layout : Layout) (b : ℕ) (blocks : List Block) → block_names (new_blocks naming moves vars layout b blocks) ≡ names_of (blocks_tags b blocks)
  blocks_names vars layout b [] = refl
  blocks_names vars layout b (block ∷ blocks) =
      ap (λ l. block.name ∷ l)
      (behind_names vars layout b block (new_blocks naming moves vars layout (suc b) blocks) (blocks_tags (suc b) blocks) (blocks_names vars layout (suc b) blocks))

  behind_olds : (b : ℕ) (block : Block) (rest : List Tag) → olds (behind_tags b block rest) ≡ results block.instrs ++ olds rest
  behind_olds b block rest =
      let mades = split_mades b (is_single block.term) 0 (targets block.term) in
      olds_append (text_tags b block 0 block.instrs) (all_new mades ++ rest)
      ∙ ap (λ l. l ++ olds (all_new mades ++ rest)) (text_olds b block 0 block.instrs)
      ∙ ap (λ l. results block.instrs ++ l) (olds_append (all_new mades) rest ∙ ap (λ l. l ++ olds rest) (olds_new mades))

  blocks_olds : (b : ℕ) (blocks : List Block) → olds (blocks_tags b blocks) ≡ block_names blocks
  blocks_olds b [] = refl
  blocks_olds b (block ∷ blocks) =
      ap (λ l. block.name ∷ l) (behind_olds b block (blocks_tags (suc b) blocks) ∙ ap (λ l. results block.instrs ++ l) (blocks_olds (suc b) blocks))

  behind_news : (b : ℕ) (block : Block) (rest : List Tag) → news (behind_tags b block rest) ≡ block_mades b block ++ news rest
  behind_news b block rest =
      let text = text_mades b block 0 block.instrs in
      let mades = split_mades b (is_single block.term) 0 (targets block.term) in
      news_append (text_tags b block 0 block.instrs) (all_new mades ++ rest)
      ∙ ap (λ l. l ++ news (all_new mades ++ rest)) (text_news b block 0 block.instrs)
      ∙ ap (λ l. text ++ l) (news_append (all_new mades) rest ∙ ap (λ l. l ++ news rest) (news_new mades))
      ∙ sym (append_assoc text mades (news rest))

  blocks_news : (b : ℕ) (blocks : List Block) → news (blocks_tags b blocks) ≡ blocks_mades b blocks
  blocks_news b [] = refl
  blocks_news b (block ∷ blocks) = behind_news b block (blocks_tags (suc b) blocks) ∙ ap (λ l. block_mades b block ++ l) (blocks_news (suc b) blocks)

  -- ---- a function with blocks

  abbrev pub temps : List Made
  temps = map (λ move. Temp move.number) moves

  temp_names : (rest : List Move) → map (λ x. x.1) (temporaries naming rest) ≡ names_of (all_new (map (λ move. Temp move.number) rest))
  temp_names [] = refl
  temp_names (move ∷ rest) = ap (λ l. made naming (Temp move.number) ∷ l) (temp_names rest)

  abbrev pub body_tags : List Name → List Block → List Tag
  body_tags vars [] = all_old vars ++ all_new temps
  body_tags vars (entry ∷ blocks) = Old entry.name ∷ ((all_old vars ++ all_new temps) ++ behind_tags 0 entry (blocks_tags 1 blocks))

  abbrev pub function_tags : Function → List Tag
  function_tags function = all_old (map (λ x. x.1) function.params) ++ body_tags (map (λ x. x.1) function.vars) function.blocks

  var_names : (vars : List (Width × Name)) → map (λ x. x.1) (vars ++ temporaries naming moves) ≡ names_of (all_old (map (λ x. x.1) vars) ++ all_new temps)
  var_names vars =
      let old = map (λ x. x.1) vars in
      map-append (λ x. x.1) vars (temporaries naming moves)
      ∙ ap (λ l. old ++ l) (temp_names moves)
      ∙ ap (λ l. l ++ names_of (all_new temps)) (sym (untagged_old naming.prefix old))
      ∙ sym (map-append (untagged naming.prefix) (all_old old) (all_new temps))

  pub body_names_are : (vars : List (Width × Name)) (count : ℕ) (layout : Layout) (blocks : List Block) → body_names (map (λ x. x.1) (vars ++ temporaries naming moves)) (new_blocks naming moves count layout 0 blocks) ≡ names_of (body_tags (map (λ x. x.1) vars) blocks)
  body_names_are vars count layout [] = var_names vars
  body_names_are vars count layout (entry ∷ blocks) =
      let first = all_old (map (λ x. x.1) vars) ++ all_new temps in
      let rest = behind_tags 0 entry (blocks_tags 1 blocks) in
      let text = results (text_from naming moves count 0 entry 0 entry.instrs) ++ block_names (split_blocks naming moves count layout 0 entry.term ++ new_blocks naming moves count layout 1 blocks) in
      ap (λ l. entry.name ∷ (l ++ text)) (var_names vars)
      ∙ ap (λ l. entry.name ∷ (names_of first ++ l)) (behind_names count layout 0 entry (new_blocks naming moves count layout 1 blocks) (blocks_tags 1 blocks) (blocks_names count layout 1 blocks))
      ∙ ap (λ l. entry.name ∷ l) (sym (map-append (untagged naming.prefix) first rest))

  first_olds : (vars : List Name) → olds (all_old vars ++ all_new temps) ≡ vars
  first_olds vars = olds_append (all_old vars) (all_new temps) ∙ ap (λ l. l ++ olds (all_new temps)) (olds_old vars) ∙ ap (λ l. vars ++ l) (olds_new temps) ∙ append-nil vars

  first_news : (vars : List Name) → news (all_old vars ++ all_new temps) ≡ temps
  first_news vars = news_append (all_old vars) (all_new temps) ∙ ap (λ l. l ++ news (all_new temps)) (news_old vars) ∙ news_new temps

  body_olds : (vars : List Name) (blocks : List Block) → olds (body_tags vars blocks) ≡ body_names vars blocks
  body_olds vars [] = first_olds vars
  body_olds vars (entry ∷ blocks) =
      let first = all_old vars ++ all_new temps in
      let rest = behind_tags 0 entry (blocks_tags 1 blocks) in
      ap (λ l. entry.name ∷ l)
      (olds_append first rest ∙ ap (λ l. l ++ olds rest) (first_olds vars)
      ∙ ap (λ l. vars ++ l) (behind_olds 0 entry (blocks_tags 1 blocks) ∙ ap (λ l. results entry.instrs ++ l) (blocks_olds 1 blocks)))

  body_news : (vars : List Name) (blocks : List Block) → news (body_tags vars blocks) ≡ temps ++ blocks_mades 0 blocks
  body_news vars [] = first_news vars ∙ sym (append-nil temps)
  body_news vars (entry ∷ blocks) =
      let first = all_old vars ++ all_new temps in
      let rest = behind_tags 0 entry (blocks_tags 1 blocks) in
      news_append first rest ∙ ap (λ l. l ++ news rest) (first_news vars)
      ∙ ap (λ l. temps ++ l) (behind_news 0 entry (blocks_tags 1 blocks) ∙ ap (λ l. block_mades 0 entry ++ l) (blocks_news 1 blocks))

  -- the new names, the old ones among them, and the made ones
  pub names_are : (function : Function) → names (record function { vars = function.vars ++ temporaries naming moves; blocks = new_blocks naming moves (length function.vars) (layout_of moves function.blocks) 0 function.blocks }) ≡ names_of (function_tags function)
  names_are function =
      let params = map (λ x. x.1) function.params in
      let body = body_tags (map (λ x. x.1) function.vars) function.blocks in
      ap (λ l. params ++ l) (body_names_are function.vars (length function.vars) (layout_of moves function.blocks) function.blocks)
      ∙ ap (λ l. l ++ names_of body) (sym (untagged_old naming.prefix params))
      ∙ sym (map-append (untagged naming.prefix) (all_old params) body)

  pub function_olds : (function : Function) → olds (function_tags function) ≡ names function
  function_olds function =
      let params = map (λ x. x.1) function.params in
      let body = body_tags (map (λ x. x.1) function.vars) function.blocks in
      olds_append (all_old params) body ∙ ap (λ l. l ++ olds body) (olds_old params) ∙ ap (λ l. params ++ l) (body_olds (map (λ x. x.1) function.vars) function.blocks)

  pub function_news : (function : Function) → news (function_tags function) ≡ temps ++ blocks_mades 0 function.blocks
  function_news function =
      let params = map (λ x. x.1) function.params in
      let body = body_tags (map (λ x. x.1) function.vars) function.blocks in
      news_append (all_old params) body ∙ ap (λ l. l ++ news body) (news_old params) ∙ body_news (map (λ x. x.1) function.vars) function.blocks
