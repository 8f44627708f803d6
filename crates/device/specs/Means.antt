-- What a device means, by what its type says of its devices. Assumes nothing.
use Rattle.device.specs.declared.Device.{Ghosts}
use Rattle.device.specs.Rules.{Meaning, means_by}

-- g is what a type of device says of its devices; of a bound, ⟦<D as Device>⟧
abbrev pub means : {D : Type 0} → Ghosts D → D → Meaning
means g d = means_by g.count g.on g.current g.possible d
