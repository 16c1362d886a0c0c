use Rattle.lf_parser.proofs.statements.Statements.+rest.Given as goal

abbrev pub decreases-rest : goal.decreases-rest
decreases-rest g l = l.more
