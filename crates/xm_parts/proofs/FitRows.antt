-- What a part has of a fitting state fits, and it is not large.
use Rattle.std.proofs.Common.{◌≡◌, ℕ, length, map, ap, sym, ◌∙◌, subst, Some, slice_get, arith}
use Rattle.std.proofs.lemmas.Option.{slice_get-map}
use Rattle.std.proofs.lemmas.List.{length-map}
use Rattle.xm_model.specs.Component.{Content, content_of}
use Rattle.xm_model.specs.Next.{FitsContent}
use Rattle.xm_parts.proofs.Building.{place_few}
use Rattle.xm_parts.proofs.Passing.{passing_length}
use Rattle.xm_parts.proofs.Stepping.{map_item}
use Rattle.xm_parts.specs.Fitting.{FewLaw, FitLaw}
use Rattle.xm_parts.specs.Partition.{lies_in, prims_in, touches_at}
use Rattle.xm_parts.specs.Projection.{Row}
use Rattle.xm_parts.specs.declared.row.PrimCell.{PrimCell}

pub fit_law : FitLaw
fit_law net label p s φ row fits is k x m at has =
    let cells : map {B = ℕ × Content} (λ i. (i, s i)) (prims_in net label p) ≡ map (λ (y : PrimCell). (y.prim, content_of y.cell)) row.cells.items = sym (ap (λ (r : Row). r.cells) is) in
    let image : slice_get (map {B = ℕ × Content} (λ (y : PrimCell). (y.prim, content_of y.cell)) row.cells.items) k ≡ Some (x.prim, content_of x.cell) =
    rw (slice_get-map {B = ℕ × Content} (λ (y : PrimCell). (y.prim, content_of y.cell)) row.cells.items k, at) (λ i. Some (x.prim, content_of x.cell)) in
    let found = map_item {Y = ℕ × Content} (λ i. (i, s i)) (prims_in net label p) (map (λ (y : PrimCell). (y.prim, content_of y.cell)) row.cells.items) k (x.prim, content_of x.cell) cells image in
    let prim : found.0 ≡ x.prim = ap (λ y. y.0) found.2 in
    let content : s found.0 ≡ content_of x.cell = ap (λ y. y.1) found.2 in
    subst (λ (c : Content). FitsContent net.colours m c) content (fits found.0 m (ap (slice_get net.prims) prim ∙ has))

pub few_law : FewLaw
few_law net label p row is_net fits =
    let limits = is_net.limits in
    let prims = passing_length (touches_at net label p) (length net.prims) in
    let channels = passing_length (lies_in label p) net.channels in
    let few_prims = place_few (touches_at net label p) (length net.prims) in
    let few_channels = place_few (lies_in label p) net.channels in
    let cells = length-map row.cells.items (λ (y : PrimCell). y.prim) in
    let seen = ap length fits.prims in
    (omega (arith, limits.prims), omega (arith, limits.channels, fits.wires))
