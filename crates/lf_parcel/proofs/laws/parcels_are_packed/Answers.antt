use Rattle.lf_parcel.proofs.Trees.StandsAnywhere.{packed_parcel, parcel_packed, rowless_packed}
use Rattle.lf_parcel.proofs.laws.parcels_are_packed.Goals as goal

pub returns-clause-plain : goal.returns-clause-plain
returns-clause-plain c = rowless_packed

pub returns-clause-packed : goal.returns-clause-packed
returns-clause-packed c = parcel_packed

pub returns-clause-parcel : goal.returns-clause-parcel
returns-clause-parcel c = packed_parcel
