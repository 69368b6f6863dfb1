use Rattle.std.proofs.Common.{◌∙◌, ap, sym, option_map, cond, Bool, None}
use Rattle.std.specs.BTreeMap.{get_by_text}
use Rattle.std.proofs.lemmas.Map.Text.{btree_map_updates_text}
use Rattle.serde_json.specs.View.{view}
use Rattle.serde_json.proofs.Views.{view-lookup}
use Rattle.xm_netlist.proofs.reading.take_member.Goals as goal

pub returns-clause-found : goal.returns-clause-found
returns-clause-found c = ap (option_map view) c.remove.ensures.value ∙ view-lookup c.args.key.now c.args.members.now.entries

pub returns-clause-others : goal.returns-clause-others
returns-clause-others c = λ q other.
    let same = btree_map_updates_text c.args.key.now c.args.members.now c.remove.new.self _ c.remove.ensures.updates q in
    sym (view-lookup q c.remove.new.self.entries) ∙ ap (option_map view) (same ∙ ap (λ (b : Bool). cond b None (get_by_text c.args.members.now q)) other) ∙ view-lookup q c.args.members.now.entries
