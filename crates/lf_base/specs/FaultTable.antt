-- The numbers and the names of the faults.
use Rattle.std.specs.Prelude.{ℕ, List, codes}
use Rattle.lf_base.specs.declared.faults.Fault.{Fault}
use Rattle.lf_base.specs.declared.faults.Fault.TheVariants.{Unset, NotObject, NoField, FrozenWrite, Interior, SecondOwner, Cycle}
use Rattle.lf_base.specs.declared.faults.Fault.TheVariants.{LocalInCown, NotAcquired, NotCown, NotShareable, NotBridge, Owned, Open, Kind}
use Rattle.lf_base.specs.declared.faults.Fault.TheVariants.{Overflow, ZeroDivisor, TooDeep, TooManyObjects, OutputFull, OutOfTicks}
use Rattle.lf_base.specs.declared.faults.Fault.TheVariants.{TooManySpawns}

-- a fault's number
abbrev pub fault_number : Fault → ℕ
fault_number Unset = 1
fault_number NotObject = 2
fault_number NoField = 3
fault_number FrozenWrite = 4
fault_number Interior = 5
fault_number SecondOwner = 6
fault_number Cycle = 7
fault_number LocalInCown = 8
fault_number NotAcquired = 9
fault_number NotCown = 10
fault_number NotShareable = 11
fault_number NotBridge = 12
fault_number Owned = 13
fault_number Open = 14
fault_number Kind = 15
fault_number Overflow = 16
fault_number ZeroDivisor = 17
fault_number TooDeep = 18
fault_number TooManyObjects = 19
fault_number OutputFull = 20
fault_number OutOfTicks = 21
fault_number TooManySpawns = 22

-- a fault's name, in bytes
abbrev pub fault_name : Fault → List ℕ
fault_name Unset = codes "Unset"
fault_name NotObject = codes "NotObject"
fault_name NoField = codes "NoField"
fault_name FrozenWrite = codes "FrozenWrite"
fault_name Interior = codes "Interior"
fault_name SecondOwner = codes "SecondOwner"
fault_name Cycle = codes "Cycle"
fault_name LocalInCown = codes "LocalInCown"
fault_name NotAcquired = codes "NotAcquired"
fault_name NotCown = codes "NotCown"
fault_name NotShareable = codes "NotShareable"
fault_name NotBridge = codes "NotBridge"
fault_name Owned = codes "Owned"
fault_name Open = codes "Open"
fault_name Kind = codes "Kind"
fault_name Overflow = codes "Overflow"
fault_name ZeroDivisor = codes "ZeroDivisor"
fault_name TooDeep = codes "TooDeep"
fault_name TooManyObjects = codes "TooManyObjects"
fault_name OutputFull = codes "OutputFull"
fault_name OutOfTicks = codes "OutOfTicks"
fault_name TooManySpawns = codes "TooManySpawns"
