-- What holds of each element of a list, counted lists, and lists joined block by block.
use Rattle.std.proofs.Common.{◌≡◌, ℕ, suc, zero, ◌+◌, ◌≤◌, ◌<◌, Bool, false, List, [], ◌∷◌, ◌++◌, length, map, refl, ap, ◌∙◌, arith, subst, get_or}
use Rattle.std.specs.List.{sum_by, AllByRecursion}
use Rattle.std.proofs.lemmas.List.Sums.{sum_by-cons, sum_by-append}
use Rattle.best_placement.specs.Blocks.{Block, CountsFrom, joined}

pub each_both : {X : Type 0} (P Q : X → Type 0) (xs : List X) → AllByRecursion P xs → AllByRecursion Q xs → AllByRecursion (λ x. P x × Q x) xs
each_both P Q [] p q = tt
each_both P Q (x ∷ xs) p q = ((p.0, q.0), each_both P Q xs p.1 q.1)

pub each_weaker : {X : Type 0} (P Q : X → Type 0) → ((x : X) → P x → Q x) → (xs : List X) → AllByRecursion P xs → AllByRecursion Q xs
each_weaker P Q f [] p = tt
each_weaker P Q f (x ∷ xs) p = (f x p.0, each_weaker P Q f xs p.1)

pub each_every : {X : Type 0} (P : X → Type 0) → ((x : X) → P x) → (xs : List X) → AllByRecursion P xs
each_every P f [] = tt
each_every P f (x ∷ xs) = (f x, each_every P f xs)

pub each_append : {X : Type 0} (P : X → Type 0) (xs ys : List X) → AllByRecursion P xs → AllByRecursion P ys → AllByRecursion P (xs ++ ys)
each_append P [] ys p q = q
each_append P (x ∷ xs) ys p q = (p.0, each_append P xs ys p.1 q)

pub each_split : {X : Type 0} (P : X → Type 0) (xs ys : List X) → AllByRecursion P (xs ++ ys) → AllByRecursion P xs × AllByRecursion P ys
each_split P [] ys p = (tt, p)
each_split P (x ∷ xs) ys p = let r = each_split P xs ys p.1 in ((p.0, r.0), r.1)

pub each_map : {X Y : Type 0} (P : Y → Type 0) (f : X → Y) (xs : List X) → AllByRecursion (λ x. P (f x)) xs → AllByRecursion P (map f xs)
each_map P f [] p = tt
each_map P f (x ∷ xs) p = (p.0, each_map P f xs p.1)

pub each_unmap : {X Y : Type 0} (P : Y → Type 0) (f : X → Y) (xs : List X) → AllByRecursion P (map f xs) → AllByRecursion (λ x. P (f x)) xs
each_unmap P f [] p = tt
each_unmap P f (x ∷ xs) p = (p.0, each_unmap P f xs p.1)

pub each_joined : (P : ℕ → Type 0) (f : Block → List ℕ) (blocks : List Block) → AllByRecursion (λ b. AllByRecursion P (f b)) blocks → AllByRecursion P (joined f blocks)
each_joined P f [] p = tt
each_joined P f (b ∷ blocks) p = each_append P (f b) (joined f blocks) p.0 (each_joined P f blocks p.1)

pub each_unjoined : (P : ℕ → Type 0) (f : Block → List ℕ) (blocks : List Block) → AllByRecursion P (joined f blocks) → AllByRecursion (λ b. AllByRecursion P (f b)) blocks
each_unjoined P f [] p = tt
each_unjoined P f (b ∷ blocks) p = let r = each_split P (f b) (joined f blocks) p in (r.0, each_unjoined P f blocks r.1)

-- each number of a counted list is in its range, and what holds of each holds of the range
pub counted_below : (n m : ℕ) (xs : List ℕ) → CountsFrom n xs → n + length xs ≤ m → AllByRecursion (λ x. x < m) xs
counted_below n m [] c h = tt
counted_below n m (x ∷ xs) c h = (let e : x ≡ n = c.0 in omega arith, counted_below (suc n) m xs c.1 (omega arith))

pub counted_all : (P : ℕ → Type 0) (n : ℕ) (xs : List ℕ) → CountsFrom n xs → AllByRecursion P xs → (i : ℕ) → i < length xs → P (n + i)
counted_all P n [] c p i h = absurd (omega arith)
counted_all P n (x ∷ xs) c p zero h = subst P (let e : x ≡ n = c.0 in let g : x ≡ n + 0 = omega arith in g) p.0
counted_all P n (x ∷ xs) c p (suc i) h = subst P (let g : suc n + i ≡ n + suc i = omega arith in g) (counted_all P (suc n) xs c.1 p.1 i (omega arith))

pub counted_each : (P : ℕ → Type 0) (xs : List ℕ) → CountsFrom 0 xs → AllByRecursion P xs → (i : ℕ) → i < length xs → P i
counted_each P xs c p i h = subst P (let e : 0 + i ≡ i = omega arith in e) (counted_all P 0 xs c p i h)

pub sum_by-map : {X Y : Type 0} (f : Y → ℕ) (g : X → Y) (xs : List X) → sum_by f (map g xs) ≡ sum_by (λ x. f (g x)) xs
sum_by-map f g [] = refl
sum_by-map f g (x ∷ xs) = omega (arith, sum_by-cons f (g x) (map g xs), sum_by-cons (λ y. f (g y)) x xs, sum_by-map f g xs)

pub sum_by-joined : (f : ℕ → ℕ) (g : Block → List ℕ) (blocks : List Block) → sum_by f (joined g blocks) ≡ sum_by (λ b. sum_by f (g b)) blocks
sum_by-joined f g [] = refl
sum_by-joined f g (b ∷ blocks) = omega (arith, sum_by-append f (g b) (joined g blocks), sum_by-cons (λ c. sum_by f (g c)) b blocks, sum_by-joined f g blocks)

-- the test gives these answers at these numbers
abbrev pub Matches : (ℕ → Bool) → List ℕ → List Bool → Type 0
Matches f [] ls = Unit {0}
Matches f (x ∷ xs) [] = ⊥
Matches f (x ∷ xs) (l ∷ ls) = (f x ≡ l) × Matches f xs ls

pub matches_split : (f : ℕ → Bool) (xs ys : List ℕ) (ls ms : List Bool) → length xs ≡ length ls → Matches f (xs ++ ys) (ls ++ ms) → Matches f xs ls × Matches f ys ms
matches_split f [] ys [] ms e h = (tt, h)
matches_split f [] ys (l ∷ ls) ms e h = absurd (omega arith)
matches_split f (x ∷ xs) ys [] ms e h = absurd (omega arith)
matches_split f (x ∷ xs) ys (l ∷ ls) ms e h = let r = matches_split f xs ys ls ms (omega arith) h.1 in ((h.0, r.0), r.1)

pub counted_matches : (f : ℕ → Bool) (n : ℕ) (xs : List ℕ) (ls : List Bool) → CountsFrom n xs → length xs ≡ length ls → ((i : ℕ) → f (n + i) ≡ get_or ls i false) → Matches f xs ls
counted_matches f n [] ls c e h = tt
counted_matches f n (x ∷ xs) [] c e h = absurd (omega arith)
counted_matches f n (x ∷ xs) (l ∷ ls) c e h = (
  ap f (let s : x ≡ n = c.0 in let g : x ≡ n + 0 = omega arith in g) ∙ h 0,
  counted_matches f (suc n) xs ls c.1 (omega arith) (λ i. ap f (let g : suc n + i ≡ n + suc i = omega arith in g) ∙ h (suc i)),
)
