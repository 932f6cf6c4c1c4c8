-- A row that goes on by values.
use Rattle.std.proofs.Common.{ℕ, ◌≡◌, ◌≢◌, ◌+◌, ◌-◌, ◌*◌, ◌<◌, ◌≤◌, min, List, length, take, slice_index, sym, ◌∙◌, ap, subst, arith}
use Rattle.std.proofs.lemmas.List.{length-take-le, get_or-take}
use Rattle.sota_units.specs.Limits.{BUDGET_LIMIT}
use Rattle.sota_units.specs.Rounding.{ONE}
use Rattle.sota_bank.specs.Rows.{Row}
use Rattle.sota_network.specs.Network.{IsNode}
use Rattle.sota_network.specs.Grid.{best_sum}
use Rattle.sota_sums.specs.Bounds.{rounded_in}
use Rattle.sota_period.specs.declared.ask.Ask.{Ask}
use Rattle.sota_period.specs.declared.ask.Block.{Block}
use Rattle.sota_period.specs.Laws.{NetworkLaws}
use Rattle.sota_period.specs.Rows.{timed_row, row_value, row_room, asked_net, asked_value, asked_nodes, asked_need, AreLonger, AreRows, IsBlock}
use Rattle.sota_period.specs.Broad.{AllRead}
use Rattle.sota_period.proofs.Filling.{nodes-held, reads, bests-small, value-here, longer, own-long, rows-longer, are-longer}

-- the row of a node lacks the values at the budgets from `at` on: it goes on up to the end of a block, or as far as it has room
pub record GoesOn (block : Block) (rows : List (Row ℕ)) (node at end : ℕ) : Type 0 where
  pub laws : NetworkLaws
  pub is : IsBlock block
  pub before : AreRows block.ask.now block.from rows
  pub off : node ≢ block.ask.now.dest
  pub is_node : IsNode block.network.now node
  pub at_is : at ≡ length (timed_row rows node)
  pub end_is : end ≡ min (row_room rows node) (block.from + block.count)
  pub less : at < end

-- rows of which that of a node went on up to the end of a block, or as far as it is needed
pub record HaveGrown (ask : Ask) (from to node : ℕ) (old new : List (Row ℕ)) : Type 0 where
  pub rows : AreRows ask from new
  pub longer : AreLonger old new
  pub reach : min to (asked_need ask node) ≤ length (timed_row new node)

module _ {block : Block} {rows : List (Row ℕ)} {node at end : ℕ} (on : GoesOn block rows node at end) where
  here : (asked_net block.ask.now).at block.from ≡ block.network.now
  here = on.is.holds block.from (omega arith) (omega (arith, on.is.some))

  last : node ≤ asked_nodes block.ask.now
  last = omega (arith, on.is_node.1, nodes-held on.laws block.ask.now on.is.asked block.network.now block.from here)

  pub known-node : node ≤ length rows
  known-node = omega (arith, last, on.before.count)

  need-is : row_room rows node ≡ asked_need block.ask.now node
  need-is = on.before.room node on.is_node.0 last

  pub late : block.from ≤ at
  late = omega (arith, on.end_is, on.less, need-is, on.before.reach node on.is_node.0 last, on.at_is)

  pub ext-few : end - at ≤ 64
  ext-few = omega (arith, on.end_is, late, on.is.few)

  pub ext-limit : at + (end - at) ≤ BUDGET_LIMIT + 1
  ext-limit = omega (arith, on.end_is, on.less, on.is.limit, on.is.asked.budget)

  pub ext-room : at + (end - at) ≤ row_room rows node
  ext-room = omega (arith, on.end_is, on.less)

  soon : (x : ℕ) → x < end - at → at + x < block.from + block.count
  soon x h = omega (arith, on.end_is, on.less)

  needed : (x : ℕ) → x < end - at → at + x < asked_need block.ask.now node
  needed x h = omega (arith, on.end_is, on.less, need-is)

  pub ext-read : AllRead rows (at + (end - at)) block.network.now node
  ext-read = reads on.laws block.ask.now on.is.asked block.network.now block.from block.count rows on.before on.is.takes block.from here node on.off (at + (end - at)) (omega (arith, on.end_is, on.less)) (omega (arith, ext-room, need-is))

  pub ext-small : (x : ℕ) → x < end - at → best_sum block.network.now (row_value rows) node (at + x) ≤ block.network.now.scale * ONE
  ext-small x h = bests-small on.laws block.ask.now on.is.asked block.network.now block.from block.count rows on.before on.is.takes block.from here node on.off (at + x) (soon x h) (needed x h)

  -- of 64 values those that are lacking
  module _ (grains : List ℕ) (full : length grains ≡ 64)
      (values : (x : ℕ) → x < end - at → slice_index grains x ≡ rounded_in block.ask.now.bound block.network.now.scale (best_sum block.network.now (row_value rows) node (at + x))) where
    long : length (take (end - at) grains) ≡ end - at
    long = length-take-le (end - at) grains (omega (arith, full, ext-few))

    grown-rows : AreRows block.ask.now block.from (longer rows node on.is_node.0 known-node (take (end - at) grains))
    grown-rows =
        rows-longer rows node on.is_node.0 known-node (take (end - at) grains) block.ask.now block.from on.before
        (λ x h.
        let inside : x < end - at = omega (arith, h, long) in
        get_or-take (end - at) grains x 0 inside
        ∙ values x inside
        ∙ value-here on.laws block.ask.now on.is.asked block.network.now block.from block.count rows on.before on.is.takes block.from here node on.off (at + x) (soon x inside) (needed x inside)
        (on.is.holds (at + x) (omega (arith, late)) (soon x inside))
        ∙ ap (λ (n : ℕ). asked_value block.ask.now node (n + x)) on.at_is)

    pub have-grown : (new : List (Row ℕ)) → new ≡ longer rows node on.is_node.0 known-node (take (end - at) grains) → HaveGrown block.ask.now block.from (block.from + block.count) node rows new
    have-grown new is =
        subst (λ (R : List (Row ℕ)). HaveGrown block.ask.now block.from (block.from + block.count) node rows R) (sym is)
        (record {
          rows = grown-rows;
          longer = are-longer rows node on.is_node.0 known-node (take (end - at) grains);
          reach = omega (arith, own-long rows node on.is_node.0 known-node (take (end - at) grains), long, on.at_is, on.end_is, on.less, need-is);
        })
