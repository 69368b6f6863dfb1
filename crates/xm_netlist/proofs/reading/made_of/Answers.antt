use Rattle.std.proofs.Common.{◌∙◌, Err, List, ap, ap₂, map, refl, subst, sym}
use Rattle.xm_model.specs.Naming.{Naming}
use Rattle.xm_model.specs.Net.{IsWellWired}
use Rattle.xm_model.specs.declared.fault.WiringFault.{WiringFault}
use Rattle.xm_shape.specs.Fault.{wiring}
use Rattle.xm_shape.specs.Views.{allow_entry_of, plain_net_of}
use Rattle.xm_shape.specs.declared.named_net.AllowEntry as code
use Rattle.xm_netlist.specs.Lemmas.FirstFault.{is_wired, not_wired}
use Rattle.xm_netlist.specs.Numbered.{naming_in, net_of}
use Rattle.xm_netlist.specs.Inner.Placed.{numbered_allow}
use Rattle.xm_netlist.proofs.Drafts.{are_few, same_allow, same_names}
use Rattle.xm_netlist.proofs.reading.made_of.Goals as goal

pub allow_of-requires : goal.allow_of-requires
allow_of-requires c = are_few (plain_net_of c.args.draft.now) c.args.numbers.now c.requires

pub returns-in_ok-allow-in-Ok-clause-wired : goal.returns-in_ok-allow-in-Ok-clause-wired
returns-in_ok-allow-in-Ok-clause-wired c =
    is_wired (net_of (plain_net_of c.args.draft.now)) (naming_in (plain_net_of c.args.draft.now)) (subst IsWellWired c.in-Ok.ensures.net c.in-Ok.ensures.wired)

pub returns-in_ok-allow-in-Ok-clause-made : goal.returns-in_ok-allow-in-Ok-clause-made
returns-in_ok-allow-in-Ok-clause-made c = record {
  net = c.in-Ok.ensures.net;
  names = c.in_ok-names.ensures ∙ same_names (plain_net_of c.args.draft.now) c.args.numbers.now c.requires.placed;
  allow = c.in_ok-allow-in-Ok.ensures ∙ ap (λ (es : List code.AllowEntry). numbered_allow c.args.numbers.now (map allow_entry_of es)) c.deref.ensures.value
      ∙ same_allow (plain_net_of c.args.draft.now) c.args.numbers.now c.requires.placed;
}

pub returns-in-Err-Wiring-clause-wired : goal.returns-in-Err-Wiring-clause-wired
returns-in-Err-Wiring-clause-wired c =
    let names = c.in_ok-names.ensures ∙ same_names (plain_net_of c.args.draft.now) c.args.numbers.now c.requires.placed in
    not_wired (net_of (plain_net_of c.args.draft.now)) (naming_in (plain_net_of c.args.draft.now)) c.in-Err-Wiring.fault ((rw c.in-Err-Wiring.field-0-is at c.in-Err-Wiring.ensures.wiring) c.in-Err-Wiring.fault refl)
    ∙ ap₂ (λ (fault : WiringFault) (naming : Naming). Err (wiring fault naming)) (sym c.in-Err-Wiring.fault-is) (sym names)
