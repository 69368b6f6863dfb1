-- Labels that share islands out are a partition.
use Rattle.std.proofs.Common.{◌≡◌, ℕ, ◌<◌, ap, sym, ◌∙◌}
use Rattle.xm_model.specs.Net.{IsNet, Network}
use Rattle.xm_parts.proofs.Parting.{port_below}
use Rattle.xm_parts.specs.Partition.{AreIslands, IsPartition, Linked, by, itself}

module _ (net : Network) (is_net : IsNet net) (island label : ℕ → ℕ) (are : AreIslands net island) (share : ℕ → ℕ)
    (shared : (c : ℕ) → c < net.channels → label c ≡ share (island c)) where
  pub shares_partition : IsPartition net label
  shares_partition = record {
    together = λ i m c d has no_queue at_c at_d.
        let c_below = port_below net is_net i m c has at_c in let d_below = port_below net is_net i m d has at_d in
        let linked : Linked net c d = by i m has no_queue at_c at_d itself in
        shared c c_below ∙ ap share (are.together c d c_below d_below linked) ∙ sym (shared d d_below);
  }
