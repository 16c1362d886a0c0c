use Rattle.lf_domain.proofs.StateEdges.{may_count, may_count_owner, may_uncount, may_uncount_owner, one_owner}
use Rattle.lf_domain.proofs.laws.domain_edges_may_be_counted.Goals as goal

pub returns-clause-near : goal.returns-clause-near
returns-clause-near c = may_count

pub returns-clause-owner : goal.returns-clause-owner
returns-clause-owner c rows regions s from os home d = may_count_owner rows regions s d from os home

pub returns-clause-near_out : goal.returns-clause-near_out
returns-clause-near_out c rows regions s from os fs d same = may_uncount rows regions s d from os fs same

pub returns-clause-owner_out : goal.returns-clause-owner_out
returns-clause-owner_out c rows regions s from os fs home d same = may_uncount_owner rows regions s d from os fs same home

pub returns-clause-one_owner : goal.returns-clause-one_owner
returns-clause-one_owner c = one_owner
