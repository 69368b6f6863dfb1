use Rattle.std.proofs.Common.{◌≡◌, length, refl, ap, arith}
use Rattle.std.proofs.lemmas.Option.{slice_get_read}
use Rattle.xm_parts.specs.Kept.{Division}
use Rattle.xm_parts.proofs.parts.Parts.part.Goals as goal

pub returns : goal.returns
returns c =
    let parts = c.as_slice.result.now in
    let count : length c.self.inside.parts.items ≡ c.args.self.now.count = ap (λ (d : Division). d.count) c.self.view_is in
    let same : length parts ≡ length c.self.inside.parts.items = ap length c.as_slice.ensures in
    let there = slice_get_read parts (length parts) c.args.p c.index-as_slice-p.result refl (let h = c.requires in omega arith) c.index-as_slice-p.is in
    rw (← c.self.view_is) (c.self.invariant.each c.args.p c.index-as_slice-p.result (rw c.as_slice.ensures at there))
