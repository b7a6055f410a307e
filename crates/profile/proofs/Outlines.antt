-- The lines of a text beside those of a module, block by block.
use Rattle.std.proofs.Common.{◌≡◌, ◌≢◌, ℕ, zero, suc, ◌+◌, ◌≤◌, List, [], ◌∷◌, ◌++◌, Some, length, take, drop, map, slice_get, refl, sym, ap, ◌∙◌, arith}
use Rattle.std.proofs.lemmas.List.{take_more, take_all, drop_more, length-append, length-take-le, take-map, drop-map}
use Rattle.std.proofs.lemmas.Option.{slice_get_within, get_or_from_slice_get}
use Rattle.ir_types.specs.declared.syntax.Block.{Block}
use Rattle.ir_types.specs.declared.syntax.Function.{Function}
use Rattle.flow_graph.specs.Slots.{slots_from}
use Rattle.profile.specs.declared.lines.Line.{Line}
use Rattle.profile.specs.declared.lines.Line.TheVariants as line
use Rattle.profile.specs.declared.reading.ProfileError.{ProfileError}
use Rattle.profile.specs.declared.reading.ProfileError.TheVariants.{Form, Shape, Unbalanced, Unreached, Total, NoMemory}
use Rattle.profile.specs.Text.{width, block_lines}
use Rattle.profile.specs.Reading.{Outline, outline, FunctionLine, BlockLine, block_outlines}
use Rattle.profile.specs.Shapes.{DiffersAt, FailsAt, AreBlocks, AreFunction}
use Rattle.profile.proofs.Widths.{slots_push, block_lines_push, block_outlines_of, length-block_outlines, take-block_outlines, block_outline_at}

-- ---- places

pub slice_get-drop : {X : Type 0} (n : ℕ) (xs : List X) (i : ℕ) → slice_get (drop n xs) i ≡ slice_get xs (n + i)
slice_get-drop zero xs i = ap (slice_get xs) (zeros i)
  where
    zeros : (i : ℕ) → i ≡ 0 + i
    zeros i = omega arith
slice_get-drop (suc n) [] i = refl
slice_get-drop (suc n) (x ∷ xs) i = slice_get-drop n xs i ∙ ap (slice_get (x ∷ xs)) (shift n i)
  where
    shift : (n i : ℕ) → suc (n + i) ≡ suc n + i
    shift n i = omega arith

-- one more element, which stands at this place
pub take_one : {X : Type 0} (xs : List X) (i : ℕ) (x : X) → slice_get xs i ≡ Some x → take (i + 1) xs ≡ take i xs ++ x ∷ []
take_one xs i x e = take_more xs i x (slice_get_within xs i x e) ∙ ap (λ y. take i xs ++ y ∷ []) (get_or_from_slice_get xs i x x e)

pub drop_one : {X : Type 0} (xs : List X) (i : ℕ) (x : X) → slice_get xs i ≡ Some x → drop i xs ≡ x ∷ drop (i + 1) xs
drop_one xs i x e = drop_more xs i x (slice_get_within xs i x e) ∙ ap (λ y. y ∷ drop (i + 1) xs) (get_or_from_slice_get xs i x x e)

-- ---- the lines of blocks

-- the lines from `at` on are those of the first blocks
pub record BlocksSoFar (blocks : List Block) (read : List Line) (at i : ℕ) (counts : List ℕ) : Type 0 where
  pub inside : at + i ≤ length read
  pub len : length counts ≡ length (slots_from 0 (take i blocks))
  pub same : take i (drop at read) ≡ block_lines 0 (take i blocks) counts

pub blocks_none : (blocks : List Block) (read : List Line) (at : ℕ) → at ≤ length read → BlocksSoFar blocks read at 0 []
blocks_none blocks read at le = record { inside = omega (arith, le); len = refl; same = refl }

pub blocks_more : (blocks : List Block) (read : List Line) (at i : ℕ) (counts own : List ℕ) (x : Block) → slice_get blocks i ≡ Some x → slice_get read (at + i) ≡ Some (line.Block i own) → length own ≡ width x → BlocksSoFar blocks read at i counts → BlocksSoFar blocks read at (i + 1) (counts ++ own)
blocks_more blocks read at i counts own x block there wide s =
    let more = take_one blocks i x block in
    let i_is : length (take i blocks) ≡ i = length-take-le i blocks (omega (arith, slice_get_within blocks i x block)) in
    record {
      inside = omega (arith, slice_get_within read (at + i) (line.Block i own) there);
      len = (let p = slots_push 0 (take i blocks) x in omega (arith, length-append counts own, ap (λ l. length (slots_from 0 l)) more, p, s.len, wide));
      same =
          take_one (drop at read) i (line.Block i own) (slice_get-drop at read i ∙ there)
          ∙ ap (λ l. l ++ line.Block i own ∷ []) s.same
          ∙ ap (λ n. block_lines 0 (take i blocks) counts ++ line.Block n own ∷ []) (sym i_is ∙ zeros (length (take i blocks)))
          ∙ sym (block_lines_push 0 (take i blocks) x counts own s.len wide)
          ∙ ap (λ l. block_lines 0 l (counts ++ own)) (sym more);
    }
  where
    zeros : (i : ℕ) → i ≡ 0 + i
    zeros i = omega arith

pub blocks_fail : (blocks : List Block) (read : List Line) (at i : ℕ) (counts : List ℕ) (x : Block) → slice_get blocks i ≡ Some x → slice_get (map outline read) (at + i) ≢ Some (BlockLine i (width x)) → BlocksSoFar blocks read at i counts → DiffersAt (block_outlines 0 blocks) (map outline read) at (at + i + 2)
blocks_fail blocks read at i counts x block there s = record {
  place = i;
  inside = omega (arith, slice_get_within blocks i x block, length-block_outlines 0 blocks);
  first = record {
    before =
        take-block_outlines i 0 blocks ∙ sym (block_outlines_of 0 (take i blocks) counts s.len) ∙ ap (map outline) (sym s.same)
        ∙ sym (take-map outline i (drop at read)) ∙ ap (take i) (sym (drop-map outline at read));
    differs = λ e. there (sym (slice_get-drop at (map outline read) i) ∙ sym e ∙ block_outline_at 0 i blocks x block ∙ ap (λ n. Some (BlockLine n (width x))) (zeros i));
  };
  line_is = refl;
}
  where
    zeros : (i : ℕ) → 0 + i ≡ i
    zeros i = omega arith

pub blocks_all : (blocks : List Block) (read : List Line) (at i : ℕ) (counts : List ℕ) → i ≤ length blocks → length blocks ≤ i → BlocksSoFar blocks read at i counts → AreBlocks blocks read at counts
blocks_all blocks read at i counts le ge s =
    let i_is : length blocks ≡ i = omega arith in
    let all = take_all i blocks ge in
    record {
      inside = omega (arith, s.inside);
      len = s.len ∙ ap (λ l. length (slots_from 0 l)) all;
      same = ap (λ n. take n (drop at read)) i_is ∙ s.same ∙ ap (λ l. block_lines 0 l counts) all;
    }

-- ---- the lines of a function

pub function_said : (f : Function) (k : ℕ) (read : List Line) (at entry : ℕ) (slots : List ℕ) → slice_get read at ≡ Some (line.Function k entry) → AreBlocks f.blocks read (at + 1) slots → AreFunction f k read at (record { entry = entry; slots = slots })
function_said f k read at entry slots there b = record {
  inside = b.inside;
  slots = b.len;
  same =
      ap (λ n. take n (drop at read)) (one (length f.blocks)) ∙ ap (take (suc (length f.blocks))) (drop_one read at (line.Function k entry) there)
      ∙ ap (λ l. line.Function k entry ∷ l) b.same;
}
  where
    one : (n : ℕ) → 1 + n ≡ suc n
    one n = omega arith

pub function_fails : (f : Function) (k : ℕ) (there : List Outline) (at : ℕ) → slice_get there at ≢ Some (FunctionLine k) → DiffersAt (FunctionLine k ∷ block_outlines 0 f.blocks) there at (at + 2)
function_fails f k there at other = record {
  place = 0;
  inside = omega arith;
  first = record {
    before = refl;
    differs = λ e. other (ap (slice_get there) (zeros at) ∙ sym (slice_get-drop at there 0) ∙ sym e);
  };
  line_is = omega arith;
}
  where
    zeros : (n : ℕ) → n ≡ n + 0
    zeros n = omega arith

pub function_fails_later : (f : Function) (k : ℕ) (there : List Outline) (at : ℕ) (e : ProfileError) → slice_get there at ≡ Some (FunctionLine k) → FailsAt (block_outlines 0 f.blocks) there (at + 1) e → FailsAt (FunctionLine k ∷ block_outlines 0 f.blocks) there at e
function_fails_later f k there at (Shape n) here d = record {
  place = suc d.place;
  inside = omega (arith, d.inside);
  first = record {
    before = ap (λ l. FunctionLine k ∷ l) d.first.before ∙ ap (take (suc d.place)) (sym (drop_one there at (FunctionLine k) here));
    differs = λ e. d.first.differs (e ∙ ap (λ l. slice_get l (suc d.place)) (drop_one there at (FunctionLine k) here));
  };
  line_is = omega (arith, d.line_is);
}
function_fails_later f k there at NoMemory here d = tt
function_fails_later f k there at (Form n) here d = d
function_fails_later f k there at (Unbalanced n b i o) here d = d
function_fails_later f k there at (Unreached n b) here d = d
function_fails_later f k there at Total here d = d
