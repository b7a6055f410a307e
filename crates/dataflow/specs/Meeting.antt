-- What meeting the entries of some nodes with one exit does.
use Rattle.std.specs.Prelude.{◌≡◌, ℕ, ◌<◌, Contains, List, length, slice_index_or}
use Rattle.dataflow.specs.Laws.{IsBelow}

module _ {V : Type 0} (Alike : V → V → Type 0) (met : V → V → V) (d : V) where
  -- once the first i of the ends are met with the exit: the entries fall just as far as these ends ask, and each node whose entry fell is noted
  pub record MetEnds (ends : List ℕ) (before entry : List V) (exit : V) (noted_before noted : List ℕ) (i : ℕ) : Type 0 where
    pub len : length entry ≡ length before
    pub alike : (n : ℕ) → n < length before → Alike (slice_index_or entry n d) (slice_index_or before n d)
    pub below : (n : ℕ) → n < length before → IsBelow met (slice_index_or entry n d) (slice_index_or before n d)
    pub met_exit : (k : ℕ) → k < i → IsBelow met (slice_index_or entry (slice_index_or ends k 0) d) exit
    pub grows : (n : ℕ) → Contains noted_before n → Contains noted n
    pub kept : (n : ℕ) → n < length before → ¬ Contains noted n → slice_index_or entry n d ≡ slice_index_or before n d
    pub above : (f : ℕ → V) → ((n : ℕ) → n < length before → Alike (f n) (slice_index_or before n d)) → ((n : ℕ) → n < length before → IsBelow met (f n) (slice_index_or before n d)) → ((k : ℕ) → k < length ends → IsBelow met (f (slice_index_or ends k 0)) exit) → (n : ℕ) → n < length before → IsBelow met (f n) (slice_index_or entry n d)
