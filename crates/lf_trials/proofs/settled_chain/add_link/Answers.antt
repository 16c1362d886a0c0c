use Rattle.std.proofs.Common.{sym, ◌+◌}
use Rattle.lf_base.specs.declared.values.Owner.TheVariants.{Local}
use Rattle.lf_base.specs.PlainChanges.{object_result}
use Rattle.lf_trials.specs.LocalChains.{chain, numbered}
use Rattle.lf_trials.specs.SettledRows.{key_zero}
use Rattle.lf_trials.proofs.LocalChains.{chained, link_counts, link_domain, link_local_now}
use Rattle.lf_trials.proofs.SettledRows.{field_room}
use Rattle.lf_trials.proofs.settled_chain.add_link.Goals as goal

pub add_object-requires-clause-next : goal.add_object-requires-clause-next
add_object-requires-clause-next g c κs within = (chain c.args.links, ((chained c.args.links).whole, (c.requires.chain, sym (chained c.args.links).next)))

pub write_local-requires-clause-local : goal.write_local-requires-clause-local
write_local-requires-clause-local g c κs within =
    let n = c.args.links in
    let added = c.in_ok-add_object.ensures.made (chain n) (chained n).whole c.requires.chain (sym (chained n).next) in
    (object_result (chain n), (link_domain n (g.S.Store.rows c.add_object.new.store) (g.S.Store.rows c.reserve.new.self) c.args.regions.now c.requires.few c.reserve.ensures.rows added, link_local_now n))

pub write_local-requires-clause-room : goal.write_local-requires-clause-room
write_local-requires-clause-room g c κs within =
    let n = c.args.links in
    let added = c.in_ok-add_object.ensures.made (chain n) (chained n).whole c.requires.chain (sym (chained n).next) in
    let domain = link_domain n (g.S.Store.rows c.add_object.new.store) (g.S.Store.rows c.reserve.new.self) c.args.regions.now c.requires.few c.reserve.ensures.rows added in
    field_room (g.S.Store.rows c.reserve.new.self) (object_result (chain n)).rows (numbered (n + 2)) Local key_zero (g.S.Store.spare c.reserve.new.self) (domain.counts.store).rows (link_local_now n) c.in_ok-reserve.ensures.enough

pub returns : goal.returns
returns g c =
    let n = c.args.links in
    let added = c.in_ok-add_object.ensures.made (chain n) (chained n).whole c.requires.chain (sym (chained n).next) in
    let domain = link_domain n (g.S.Store.rows c.add_object.new.store) (g.S.Store.rows c.reserve.new.self) c.args.regions.now c.requires.few c.reserve.ensures.rows added in
    record { longer = link_counts n (g.S.Store.rows c.write_local.new.store) c.write_local.new.regions (c.write_local.ensures.written (object_result (chain n)) domain (link_local_now n)) }
