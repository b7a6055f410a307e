-- Paths joined at their ends, and bits that are set.
use Rattle.std.proofs.Common.{◌≡◌, ◌<◌, ◌⊎◌, ℕ, Bool, true, false, List, [], ◌∷◌, ◌++◌, length, set, refl, sym, ◌∙◌, subst, inl, inr, ⊎_elim, get_or-set_same, get_or-set_other}
use Rattle.std.proofs.lemmas.Bool.{cases_eq}
use Rattle.flow_paths.specs.Paths.{source, target, IsPath}
use Rattle.flow_paths.specs.Spreads.{IsSet, AllSet, SpreadsTo}

pub IsPath-append : (arcs : List (ℕ × ℕ)) (u : ℕ) (path : List ℕ) (v : ℕ) (rest : List ℕ) (w : ℕ) → IsPath arcs u path v → IsPath arcs v rest w → IsPath arcs u (path ++ rest) w
IsPath-append arcs u [] v rest w h k = subst (λ x. IsPath arcs x rest w) (sym h) k
IsPath-append arcs u (e ∷ path) v rest w h k = (h.0, h.1, IsPath-append arcs (target arcs e) path v rest w h.2 k)

pub AllSet-append : (bits : List Bool) (path rest : List ℕ) → AllSet bits path → AllSet bits rest → AllSet bits (path ++ rest)
AllSet-append bits [] rest h k = k
AllSet-append bits (e ∷ path) rest h k = (h.0, AllSet-append bits path rest h.1 k)

-- a path of one arc
pub IsPath-one : (arcs : List (ℕ × ℕ)) (e : ℕ) → e < length arcs → IsPath arcs (source arcs e) (e ∷ []) (target arcs e)
IsPath-one arcs e h = (h, refl, refl)

-- a seed is reached by the path of no arcs
pub SpreadsTo-seed : (arcs : List (ℕ × ℕ)) (passes seeds : List Bool) (v : ℕ) → IsSet seeds v → SpreadsTo arcs passes seeds v
SpreadsTo-seed arcs passes seeds v h = record { seed = v; path = []; seeded = h; leads = refl; passing = tt }

-- what a passing arc adds
pub SpreadsTo-step : (arcs : List (ℕ × ℕ)) (passes seeds : List Bool) (e : ℕ) → e < length arcs → IsSet passes e → SpreadsTo arcs passes seeds (source arcs e) → SpreadsTo arcs passes seeds (target arcs e)
SpreadsTo-step arcs passes seeds e h p r = record {
  seed = r.seed;
  path = r.path ++ e ∷ [];
  seeded = r.seeded;
  leads = IsPath-append arcs r.seed r.path (source arcs e) (e ∷ []) (target arcs e) r.leads (IsPath-one arcs e h);
  passing = AllSet-append passes r.path (e ∷ []) r.passing (p, tt);
}

-- ---- bits

pub IsSet-set : (bits : List Bool) (k : ℕ) → k < length bits → IsSet (set bits k true) k
IsSet-set bits k h = get_or-set_same bits k true false h

pub IsSet-kept : (bits : List Bool) (k v : ℕ) → k < length bits → IsSet bits v → IsSet (set bits k true) v
IsSet-kept bits k v h b =
    ⊎_elim
    (λ (e : v ≡ k). subst (λ x. IsSet (set bits k true) x) (sym e) (IsSet-set bits k h))
    (λ (ne : v ≡ k → ⊥). get_or-set_other bits k v true false ne ∙ b)
    (cases_eq v k)

pub IsSet-cases : (bits : List Bool) (k v : ℕ) → IsSet (set bits k true) v → (v ≡ k) ⊎ IsSet bits v
IsSet-cases bits k v b =
    ⊎_elim
    (λ (e : v ≡ k). inl e)
    (λ (ne : v ≡ k → ⊥). inr (sym (get_or-set_other bits k v true false ne) ∙ b))
    (cases_eq v k)
