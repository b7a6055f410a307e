use Rattle.std.specs.Prelude.{◌≡◌, ◌≢◌, ℕ, ◌+◌, ◌<◌, ◌≤◌, Bool, true, false, not, List, ◌⊎◌, ◌↔◌, length, count_by, slice_index_or, take, Contains, AllPairs}
use Rattle.flow_net.specs.declared.Arc.{Arc}
use Rattle.flow_net.specs.declared.levels.Distances.{Distances}
use Rattle.flow_net.specs.Network.{ResidualArc, ReachesSink, LetsMore}

-- whether the search reached a node
abbrev pub is_reached : Distances → ℕ → Bool
is_reached found v = slice_index_or found.reached.items v false

-- the distance that the search found for a node
abbrev pub distance_of : Distances → ℕ → ℕ
distance_of found v = slice_index_or found.distance.items v 0

-- the node at a place of the order
abbrev pub order_of : Distances → ℕ → ℕ
order_of found i = slice_index_or found.order.items i 0

-- how many nodes are not reached
abbrev pub unreached : Distances → ℕ
unreached found = count_by not found.reached.items

-- there are places for so many nodes
pub record HasNodes (nodes : ℕ) (found : Distances) : Type 0 where
  pub reached_len : length found.reached.items ≡ nodes
  pub distance_len : length found.distance.items ≡ nodes
  pub order_len : length found.order.items ≡ nodes

-- a node is the sink, or a residual arc leads from it to a node that is one nearer
abbrev pub IsSupported : List (Arc × ℕ) → Distances → ℕ → Type 0
IsSupported ls found v = ((v ≡ 1) × (distance_of found v ≡ 0)) ⊎
    ((w : ℕ) × ResidualArc ls v w × (is_reached found w ≡ true) × (distance_of found v ≡ distance_of found w + 1))

-- the sink is reached, and each reached node has a way to it by nearer nodes
pub record AreFound (nodes : ℕ) (ls : List (Arc × ℕ)) (found : Distances) : Type 0 where
  pub places : HasNodes nodes found
  pub sink : (is_reached found 1 ≡ true) × (distance_of found 1 ≡ 0)
  pub supported : (v : ℕ) → is_reached found v ≡ true → IsSupported ls found v
  pub others : (v : ℕ) → is_reached found v ≡ false → distance_of found v ≡ 0

-- exactly the nodes that reach the sink by residual arcs are reached, each at the fewest such arcs
pub record AreDistances (nodes : ℕ) (ls : List (Arc × ℕ)) (found : Distances) : Type 0 where
  pub places : HasNodes nodes found
  pub walk : (v : ℕ) → is_reached found v ≡ true → ReachesSink ls (distance_of found v) v
  pub fewest : (n v : ℕ) → ReachesSink ls n v → (is_reached found v ≡ true) × (distance_of found v ≤ n)
  pub others : (v : ℕ) → is_reached found v ≡ false → distance_of found v ≡ 0

-- the nodes that the search came to, one after another
abbrev pub nodes_found : Distances → List ℕ
nodes_found found = take found.count found.order.items

-- the order has exactly the reached nodes, each once, nearest first
pub record IsNearestFirst (found : Distances) : Type 0 where
  pub len : length (nodes_found found) ≡ found.count
  pub exact : (v : ℕ) → Contains (nodes_found found) v ↔ (is_reached found v ≡ true)
  pub nearest : AllPairs (λ u v. (u ≢ v) × (distance_of found u ≤ distance_of found v)) (nodes_found found)

-- the places of the order have the reached nodes, each once, nearest first
pub record AreOrdered (nodes : ℕ) (found : Distances) : Type 0 where
  pub room : found.count + unreached found ≤ nodes
  pub inside : (i : ℕ) → i < found.count → is_reached found (order_of found i) ≡ true
  pub met : (v : ℕ) → is_reached found v ≡ true → (i : ℕ) × (i < found.count) × (order_of found i ≡ v)
  pub low : (i : ℕ) → i < found.count → distance_of found (order_of found i) ≤ i
  pub once : (i j : ℕ) → i < j → j < found.count → order_of found i ≢ order_of found j
  pub rising : (i j : ℕ) → i ≤ j → j < found.count → distance_of found (order_of found i) ≤ distance_of found (order_of found j)

-- the search is through with the nodes before a place of the order
pub record Visiting (nodes : ℕ) (ls : List (Arc × ℕ)) (place : ℕ) (found : Distances) : Type 0 where
  pub sound : AreFound nodes ls found
  pub ordered : AreOrdered nodes found
  pub near : (i j : ℕ) → place ≤ i → i < found.count → j < found.count → distance_of found (order_of found j) ≤ distance_of found (order_of found i) + 1
  pub closed : (i u : ℕ) → i < place → i < found.count → ResidualArc ls u (order_of found i) → (is_reached found u ≡ true) × (distance_of found u ≤ distance_of found (order_of found i) + 1)

-- what has a residual arc to a node, by the arc at an index, is reached
abbrev pub Answered : List (Arc × ℕ) → ℕ → ℕ → Distances → Type 0
Answered ls index v found = (u : ℕ) (l : Arc × ℕ) → LetsMore u v (slice_index_or ls index l) → is_reached found u ≡ true

-- what is reached stays so, and stays in its place
pub record Keeps (old new : Distances) : Type 0 where
  pub count : old.count ≤ new.count
  pub reached : (v : ℕ) → is_reached old v ≡ true → is_reached new v ≡ true
  pub order : (i : ℕ) → i < old.count → order_of new i ≡ order_of old i

-- one node is reached at a distance and is the next in the order, and nothing else changes
pub record Reaches (node distance : ℕ) (old new : Distances) : Type 0 where
  pub before : is_reached old node ≡ false
  pub now : (is_reached new node ≡ true) × (distance_of new node ≡ distance)
  pub rest : (v : ℕ) → v ≢ node → (is_reached new v ≡ is_reached old v) × (distance_of new v ≡ distance_of old v)
  pub reached_len : length new.reached.items ≡ length old.reached.items
  pub distance_len : length new.distance.items ≡ length old.distance.items
  pub order_len : length new.order.items ≡ length old.order.items
  pub fewer : unreached new + 1 ≡ unreached old
  pub count : new.count ≡ old.count + 1
  pub placed : order_of new old.count ≡ node
  pub order : (i : ℕ) → i < old.count → order_of new i ≡ order_of old i

-- where there is a way, a node is reached now, if it wasn't before
abbrev pub Attempts : Bool → ℕ → ℕ → Distances → Distances → Type 0
Attempts has_way node distance old new =
    ((has_way ≡ true) × Reaches node distance old new) ⊎ ((new ≡ old) × (has_way ≡ true → is_reached old node ≡ true))
