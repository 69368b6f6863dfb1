-- Lemmas: the columns of lemmas are places of queue pairs.
use Rattle.std.proofs.Common.{◌≡◌, ◌<◌, ℕ, List, Some, slice_get, All, length, refl, ap, ◌∙◌, arith}
use Rattle.std.specs.Prelude.{slice_index_or}
use Rattle.std.proofs.lemmas.List.Elements.{All-weaker}
use Rattle.std.proofs.lemmas.Option.{slice_get-get_or}
use Rattle.xm_colours.specs.Family.{Rises, colours_at}
use Rattle.xm_design.specs.Designed.{Designed}
use Rattle.xm_model.specs.Membership.{IsIn}
use Rattle.xm_model.specs.Naming.{Naming}
use Rattle.xm_proof.specs.Lemmas.QueuePairs.{Pair, in_at, of_a_queue}
use Rattle.xm_proof.specs.Tests.{is_queue, queue_columns}
use Rattle.xm_proof_reader.specs.Known.{known_by}
use Rattle.xm_proof_reader.specs.Lemmas.Pairs.{placed}
use Rattle.xm_proof_writer.proofs.Rows.{AreColumns, IsColumn}
use Rattle.xm_rows.specs.declared.row.Entry.{Entry}

module _ (it : Designed) (names : Naming) (rise : (c : ℕ) → Rises (colours_at it.colours c)) (below : (c d : ℕ) → IsIn (colours_at it.colours c) d → d < it.net.colours) where
  pub is_column : (column : ℕ) → column < length (queue_columns it) → IsColumn (known_by it names) column
  is_column column lt =
      let pair : Pair = slice_index_or (queue_columns it) column (0, 0) in
      let at : slice_get (queue_columns it) column ≡ Some (pair.0, pair.1) = slice_get-get_or (queue_columns it) column (0, 0) lt in
      let found = of_a_queue (colours_at it.colours) 0 it.net.prims pair (in_at (queue_columns it) column pair at) in
      let place : pair.0 ≡ found.0 = (let e = found.1 in omega arith) in
      record {
        queue = pair.0;
        colour = pair.1;
        pair = refl;
        first = placed (colours_at it.colours) it.net.prims pair.0 pair.1 column rise at;
        is_queue = ap (λ (q : ℕ). is_queue (slice_get it.net.prims q)) place ∙ ap is_queue found.2.queue;
        is_colour = below found.2.out pair.1 found.2.colour;
      }

  pub are_columns : (es : List Entry) → All (λ (e : Entry). e.column < length (queue_columns it)) es → AreColumns (known_by it names) es
  are_columns es all = All-weaker (λ (e : Entry). e.column < length (queue_columns it)) (λ (e : Entry). IsColumn (known_by it names) e.column) (λ e lt. is_column e.column lt) es all
