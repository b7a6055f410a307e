-- An expression has one lazy placement.
use Rattle.std.proofs.Common.{◌≡◌, ap₂}
use Rattle.best_choice.proofs.Ascending.{ascending_same}
use Rattle.lazy_motion.specs.Laws.{OneLazyIn}

pub one_lazy : OneLazyIn
one_lazy f points t e p q a b =
    let inserted : p.inserted ≡ q.inserted = ascending_same p.inserted q.inserted a.placement.inserted_order b.placement.inserted_order
    (λ v c. (b.lazy.inserted v).1 ((a.lazy.inserted v).0 c)) (λ v c. (a.lazy.inserted v).1 ((b.lazy.inserted v).0 c)) in
    let kept : p.kept ≡ q.kept = ascending_same p.kept q.kept a.placement.kept_order b.placement.kept_order
    (λ v c. (b.lazy.kept v).1 ((a.lazy.kept v).0 c)) (λ v c. (a.lazy.kept v).1 ((b.lazy.kept v).0 c)) in
    ap₂ (λ xs ys. record { inserted = xs; kept = ys }) inserted kept
