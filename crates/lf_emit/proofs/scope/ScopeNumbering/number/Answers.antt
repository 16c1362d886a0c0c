use Rattle.std.proofs.Common.{◌∙◌}
use Rattle.lf_emit.specs.Scopes.{name_keys}
use Rattle.lf_emit.proofs.PlaceTables.{place_by}
use Rattle.lf_emit.proofs.scope.ScopeNumbering.number.Goals as goal

pub returns : goal.returns
returns c =
    c.place.ensures (name_keys c.args.self.now.names.now) c.args.self.now.vars_are
    ∙ place_by (λ x. x.id.index) c.args.self.now.names.now c.args.name.id.index
