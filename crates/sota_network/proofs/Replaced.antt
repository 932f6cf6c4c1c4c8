-- The time of an arc, replaced.
use Rattle.std.proofs.Common.{ℕ, zero, suc, ◌≡◌, ◌≤◌, List, [], ◌∷◌, get_or, set, subst, map, slice_get, Option, None, Some, refl, sym, ◌∙◌, ap}
use Rattle.std.proofs.Math.ListN.{length-set}
use Rattle.std.proofs.lemmas.List.Elements.{All-set}
use Rattle.std.proofs.lemmas.Option.{slice_get_within, get_or_from_slice_get}
use Rattle.sota_hist.specs.Time.{IsTime, total}
use Rattle.sota_network.specs.Network.{Net, IsNet, IsArc, arc_at, replaced}
use Rattle.sota_network.specs.Adjacency.{IsIndexed, grouped}
use Rattle.sota_network.specs.declared.network.Arc.{Arc}

-- the arc with another time
abbrev pub timed : Arc → List (ℕ × ℕ) → Arc
timed arc time = record arc { time = time }

-- an item that is replaced by one of which f makes the same
map-set : {X Y : Type 0} (f : X → Y) (k : ℕ) (a b : X) (xs : List X) → slice_get xs k ≡ Some a → f b ≡ f a → map f (set xs k b) ≡ map f xs
map-set f k a b [] is same = refl
map-set f zero a b (x ∷ xs) is same =
    let here : x ≡ a = cc in
    rw (here, same) refl
map-set f (suc k) a b (x ∷ xs) is same =
    let more : map f (set xs k b) ≡ map f xs = map-set f k a b xs is same in
    rw more refl

pub replaced-at : (net : Net) (n k : ℕ) (a : Arc) (time : List (ℕ × ℕ)) → n ≡ suc k → slice_get net.arcs k ≡ Some a → replaced net n time ≡ record net { arcs = set net.arcs k (timed a time) }
replaced-at net n k a time at is = rw at (rw (is, replaced) refl)

pub arc-at : (net : Net) (n k : ℕ) (a : Arc) → n ≡ suc k → slice_get net.arcs k ≡ Some a → arc_at net n ≡ Some a
arc-at net n k a at is = rw at is

-- an arc with another time of a total within the scale is one of the network
pub arc-timed : (net : Net) (a : Arc) (time : List (ℕ × ℕ)) → IsArc net a → IsTime time → total time ≤ net.scale → IsArc net (timed a time)
arc-timed net a time is valid sum = record { tail = is.tail; head = is.head; time = valid; total = sum }

pub arc-read : (net : Net) (k : ℕ) (a : Arc) → IsNet net → slice_get net.arcs k ≡ Some a → IsArc net a
arc-read net k a valid is =
    subst (λ (b : Arc). IsArc net b) (get_or_from_slice_get net.arcs k a a is) (valid.arcs k a (slice_get_within net.arcs k a is))

pub set-valid : (net : Net) (k : ℕ) (b : Arc) → IsNet net → IsArc net b → IsNet (record net { arcs = set net.arcs k b })
set-valid net k b valid is = record {
  scale = valid.scale;
  arcs = λ n d h. let all : IsArc net (get_or (set net.arcs k b) n d) = All-set (IsArc net) net.arcs k b is valid.arcs n d h in
      record { tail = all.tail; head = all.head; time = all.time; total = all.total };
}

-- the indexes look at tails and heads alone
pub set-indexed : (net : Net) (by_tail by_head : List (List ℕ)) (k : ℕ) (a : Arc) (time : List (ℕ × ℕ)) → IsIndexed net by_tail by_head → slice_get net.arcs k ≡ Some a
    → IsTime time → total time ≤ net.scale → IsIndexed (record net { arcs = set net.arcs k (timed a time) }) by_tail by_head
set-indexed net by_tail by_head k a time is at valid sum = record {
  valid = set-valid net k (timed a time) is.valid (arc-timed net a time (arc-read net k a is.valid at) valid sum);
  nodes = is.nodes;
  arcs = rw (length-set net.arcs k (timed a time)) is.arcs;
  tails = is.tails ∙ ap (grouped net.nodes) (sym (map-set (λ (arc : Arc). arc.tail) k a (timed a time) net.arcs at refl));
  heads = is.heads ∙ ap (grouped net.nodes) (sym (map-set (λ (arc : Arc). arc.head) k a (timed a time) net.arcs at refl));
}

kept_by : (net : Net) (k : ℕ) (time : List (ℕ × ℕ)) (found : Option Arc) → slice_get net.arcs k ≡ found → IsNet net → IsTime time → total time ≤ net.scale → IsNet (replaced net (suc k) time)
kept_by net k time None is valid rises sum = rw (is, replaced) valid
kept_by net k time (Some a) is valid rises sum =
    subst (λ (other : Net). IsNet other) (sym (replaced-at net (suc k) k a time refl is)) (set-valid net k (timed a time) valid (arc-timed net a time (arc-read net k a valid is) rises sum))

pub replaced-valid : (net : Net) (n : ℕ) (time : List (ℕ × ℕ)) → IsNet net → IsTime time → total time ≤ net.scale → IsNet (replaced net n time)
replaced-valid net zero time valid rises sum = valid
replaced-valid net (suc k) time valid rises sum = kept_by net k time (slice_get net.arcs k) refl valid rises sum
