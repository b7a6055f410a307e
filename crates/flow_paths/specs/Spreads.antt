-- What spreads along arcs.
use Rattle.std.specs.Prelude.{◌≡◌, ℕ, Bool, true, false, List, [], ◌∷◌, slice_index_or}
use Rattle.flow_paths.specs.Paths.{IsPath}

abbrev pub IsSet : List Bool → ℕ → Type 0
IsSet bits k = slice_index_or bits k false ≡ true

-- each arc of the path passes
abbrev pub AllSet : List Bool → List ℕ → Type 0
AllSet passes [] = Unit {0}
AllSet passes (e ∷ path) = IsSet passes e × AllSet passes path

-- some path of passing arcs leads from a seed to v
pub record SpreadsTo (arcs : List (ℕ × ℕ)) (passes seeds : List Bool) (v : ℕ) : Type 0 where
  pub seed : ℕ
  pub path : List ℕ
  pub seeded : IsSet seeds seed
  pub leads : IsPath arcs seed path v
  pub passing : AllSet passes path
