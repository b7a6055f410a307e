-- Another wording of validity: after the last kill, or of a path with no kill.
use Rattle.std.proofs.Common.{◌≡◌, List, [], ◌∷◌, ◌++◌, refl, sym, ◌∙◌, subst, ap, ◌⊎◌, inl, inr, ⊎_elim, All, ◌↔◌, append_assoc}
use Rattle.std.proofs.lemmas.List.Elements.{All-nil, All-cons, All-append, All-tail}
use Rattle.flow_paths.specs.declared.marks.Mark.{Mark}
use Rattle.flow_paths.specs.declared.marks.Mark.TheVariants.{Write, Kill, Pass}
use Rattle.flow_paths.specs.Paths.{Place, IsValid, WritesLast}

-- no kill, or a last one
abbrev LastKill : (Place → Type 0) → List Place → Type 0
LastKill Kills places = All (λ m. ¬ Kills m) places ⊎ ((before : List Place) × (kill : Place) × (after : List Place) × (places ≡ before ++ kill ∷ after) × Kills kill × All (λ m. ¬ Kills m) after)

last_kill_cons : (Kills : Place → Type 0) (m : Place) (places : List Place) → (Kills m ⊎ ¬ Kills m) → LastKill Kills places → LastKill Kills (m ∷ places)
last_kill_cons Kills m places (inl k) (inl none) = inr ([], m, places, refl, k, none)
last_kill_cons Kills m places (inr n) (inl none) = inl (All-cons (λ m. ¬ Kills m) m places n none)
last_kill_cons Kills m places d (inr last) = inr (m ∷ last.0, last.1, last.2, ap (λ x. m ∷ x) last.3, last.4, last.5)

last_kill : (Kills : Place → Type 0) → ((m : Place) → Kills m ⊎ ¬ Kills m) → (places : List Place) → LastKill Kills places
last_kill Kills decide [] = inl (All-nil (λ m. ¬ Kills m))
last_kill Kills decide (m ∷ places) = last_kill_cons Kills m places (decide m) (last_kill Kills decide places)

-- where no place both writes and kills, and kills are decided, the two wordings agree
pub IsValid-WritesLast : (Writes Kills : Place → Type 0) → ((m : Place) → Kills m ⊎ ¬ Kills m) → ((m : Place) → Writes m → ¬ Kills m) → (places : List Place) → IsValid Writes Kills places ↔ WritesLast Writes Kills places
IsValid-WritesLast Writes Kills decide apart places = (
  λ v. ⊎_elim
      (λ (none : All (λ m. ¬ Kills m) v.before). inr (
        subst (All (λ m. ¬ Kills m)) (sym v.split) (All-append (λ m. ¬ Kills m) v.before (v.write ∷ v.after) none (All-cons (λ m. ¬ Kills m) v.write v.after (apart v.write v.writes) v.unkilled)),
        record { before = v.before; found = v.write; after = v.after; split = v.split; holds = v.writes },
      ))
      (λ (last : (before : List Place) × (kill : Place) × (after : List Place) × (v.before ≡ before ++ kill ∷ after) × Kills kill × All (λ m. ¬ Kills m) after). inl (record {
        before = last.0;
        kill = last.1;
        after = last.2 ++ v.write ∷ v.after;
        split = v.split ∙ ap (λ x. x ++ v.write ∷ v.after) last.3 ∙ append_assoc last.0 (last.1 ∷ last.2) (v.write ∷ v.after);
        kills = last.4;
        unkilled = All-append (λ m. ¬ Kills m) last.2 (v.write ∷ v.after) last.5 (All-cons (λ m. ¬ Kills m) v.write v.after (apart v.write v.writes) v.unkilled);
        write = record { before = last.2; found = v.write; after = v.after; split = refl; holds = v.writes };
      }))
      (last_kill Kills decide v.before),
  λ a. ⊎_elim
      (λ l. record {
        before = l.before ++ l.kill ∷ l.write.before;
        write = l.write.found;
        after = l.write.after;
        split = l.split ∙ ap (λ x. l.before ++ l.kill ∷ x) l.write.split ∙ sym (append_assoc l.before (l.kill ∷ l.write.before) (l.write.found ∷ l.write.after));
        writes = l.write.holds;
        unkilled = All-after l.write.found l.write.before l.write.after (subst (All (λ m. ¬ Kills m)) l.write.split l.unkilled);
      })
      (λ n. record {
        before = n.1.before;
        write = n.1.found;
        after = n.1.after;
        split = n.1.split;
        writes = n.1.holds;
        unkilled = All-after n.1.found n.1.before n.1.after (subst (All (λ m. ¬ Kills m)) n.1.split n.0);
      })
      a,
)
  where
    All-after : (m : Place) (first second : List Place) → All (λ m. ¬ Kills m) (first ++ m ∷ second) → All (λ m. ¬ Kills m) second
    All-after m [] second h = All-tail (λ m. ¬ Kills m) m second h
    All-after m (x ∷ first) second h = All-after m first second (All-tail (λ m. ¬ Kills m) x (first ++ m ∷ second) h)

-- each mark kills or doesn't, and none both writes and kills
pub kill_or_not : (k : Mark) → (k ≡ Kill) ⊎ ¬ (k ≡ Kill)
kill_or_not Write = inr (λ h. cc)
kill_or_not Kill = inl refl
kill_or_not Pass = inr (λ h. cc)

pub write_no_kill : (k : Mark) → k ≡ Write → ¬ (k ≡ Kill)
write_no_kill k w h = let e : Write ≡ Kill = sym w ∙ h in cc
