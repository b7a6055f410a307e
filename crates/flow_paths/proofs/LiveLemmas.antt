-- Paths against the direction of their arcs, and what they meet.
use Rattle.std.proofs.Common.{◌≡◌, ◌<◌, ◌↔◌, ℕ, Bool, List, [], ◌∷◌, ◌++◌, All, length, get_or, refl, sym, ◌∙◌, subst, ap}
use Rattle.std.proofs.lemmas.List.{length-map, get_or-map}
use Rattle.std.proofs.lemmas.List.Elements.{All-nil, All-cons, All-head, All-tail}
use Rattle.flow_paths.specs.declared.marks.Mark.{Mark}
use Rattle.flow_paths.specs.declared.marks.Mark.TheVariants.{Write}
use Rattle.flow_paths.specs.Paths.{source, target, flipped_arcs, IsPath, ArcsWithin, Place, at_point, on_edge, met}
use Rattle.flow_paths.specs.Spreads.{IsSet, AllSet, SpreadsTo}
use Rattle.flow_paths.specs.Marks.{mark_at, MeetsUnwritten}
use Rattle.flow_paths.specs.Stretches.{AreUnwritten}
use Rattle.flow_paths.proofs.PathLemmas.{IsPath-append, AllSet-append}

pub flipped : (arcs : List (ℕ × ℕ)) (e : ℕ) → e < length arcs → get_or (flipped_arcs arcs) e (0, 0) ≡ (target arcs e, source arcs e)
flipped arcs e h = get_or-map (λ a. (a.1, a.0)) arcs e (0, 0) (0, 0) h

-- some path of passing arcs leads from u to v
pub record PassingPath (arcs : List (ℕ × ℕ)) (passes : List Bool) (u v : ℕ) : Type 0 where
  pub path : List ℕ
  pub leads : IsPath arcs u path v
  pub passing : AllSet passes path

module _ (arcs : List (ℕ × ℕ)) (passes : List Bool) where
  -- a path against the arcs leads along them the other way
  pub along : (u : ℕ) (path : List ℕ) (v : ℕ) → IsPath (flipped_arcs arcs) u path v → AllSet passes path → PassingPath arcs passes v u
  along u [] v h p = record { path = []; leads = sym h; passing = tt }
  along u (e ∷ path) v h p =
      let inside : e < length arcs = subst (λ n. e < n) (length-map arcs (λ a. (a.1, a.0))) h.0 in
      let ends = flipped arcs e inside in
      let rest = along (source arcs e) path v (subst (λ x. IsPath (flipped_arcs arcs) x path v) (ap (λ a. a.1) ends) h.2) p.1 in
      record {
        path = rest.path ++ e ∷ [];
        leads = IsPath-append arcs v rest.path (source arcs e) (e ∷ []) u rest.leads (inside, refl, sym (ap (λ a. a.0) ends) ∙ h.1);
        passing = AllSet-append passes rest.path (e ∷ []) rest.passing (p.0, tt);
      }

  pub against : (u : ℕ) (path : List ℕ) (v : ℕ) → IsPath arcs u path v → AllSet passes path → PassingPath (flipped_arcs arcs) passes v u
  against u [] v h p = record { path = []; leads = sym h; passing = tt }
  against u (e ∷ path) v h p =
      let inside : e < length (flipped_arcs arcs) = subst (λ n. e < n) (sym (length-map arcs (λ a. (a.1, a.0)))) h.0 in
      let ends = flipped arcs e h.0 in
      let rest = against (target arcs e) path v h.2 p.1 in
      record {
        path = rest.path ++ e ∷ [];
        leads = IsPath-append (flipped_arcs arcs) v rest.path (target arcs e) (e ∷ []) u rest.leads (inside, ap (λ a. a.0) ends, ap (λ a. a.1) ends ∙ h.1);
        passing = AllSet-append passes rest.path (e ∷ []) rest.passing (p.0, tt);
      }

module _ (arcs : List (ℕ × ℕ)) (points edges : List Mark) (passes : List Bool) (passing : AreUnwritten arcs points edges (length arcs) passes) where
  abbrev Unwritten : Place → Type 0
  Unwritten m = ¬ (mark_at points edges m ≡ Write)

  unwritten_path : (u : ℕ) (path : List ℕ) (v : ℕ) → IsPath arcs u path v → AllSet passes path → All Unwritten (met arcs path)
  unwritten_path u [] v h s = All-nil Unwritten
  unwritten_path u (e ∷ path) v h s =
      let free = (passing.passes_are e h.0).0 s.0 in
      All-cons Unwritten (at_point (source arcs e)) (on_edge e ∷ met arcs path) free.0
      (All-cons Unwritten (on_edge e) (met arcs path) free.1 (unwritten_path (target arcs e) path v h.2 s.1))

  passing_path : (u : ℕ) (path : List ℕ) (v : ℕ) → IsPath arcs u path v → All Unwritten (met arcs path) → AllSet passes path
  passing_path u [] v h a = tt
  passing_path u (e ∷ path) v h a =
      let rest = All-tail Unwritten (at_point (source arcs e)) (on_edge e ∷ met arcs path) a in (
        (passing.passes_are e h.0).1 (All-head Unwritten (at_point (source arcs e)) (on_edge e ∷ met arcs path) a, All-head Unwritten (on_edge e) (met arcs path) rest),
        passing_path (target arcs e) path v h.2 (All-tail Unwritten (on_edge e) (met arcs path) rest),
      )

  -- what spreads from the goals against unwritten arcs are the points that meet a goal unwritten
  pub meets_spread : (goals : List Bool) (v : ℕ) → SpreadsTo (flipped_arcs arcs) passes goals v ↔ MeetsUnwritten arcs (mark_at points edges) goals v
  meets_spread goals v = (
    λ s.
        let q : PassingPath arcs passes v s.seed = along arcs passes s.seed s.path v s.leads s.passing in
        record {
          path = q.path;
          goal = s.seed;
          leads = q.leads;
          is_goal = s.seeded;
          unwritten = unwritten_path v q.path s.seed q.leads q.passing;
        },
    λ l.
        let q : PassingPath (flipped_arcs arcs) passes l.goal v = against arcs passes v l.path l.goal l.leads (passing_path v l.path l.goal l.leads l.unwritten) in
        record { seed = l.goal; path = q.path; seeded = l.is_goal; leads = q.leads; passing = q.passing },
  )

pub flipped_within : (arcs : List (ℕ × ℕ)) (n : ℕ) → ArcsWithin arcs n → ArcsWithin (flipped_arcs arcs) n
flipped_within arcs n within e h =
    let inside : e < length arcs = subst (λ k. e < k) (length-map arcs (λ a. (a.1, a.0))) h in
    let ends = flipped arcs e inside in
    let w = within e inside in
    (subst (λ x. x < n) (sym (ap (λ a. a.0) ends)) w.1, subst (λ x. x < n) (sym (ap (λ a. a.1) ends)) w.0)
