-- The result of a call of a device.
use Rattle.std.specs.Prelude.{ℕ, Result, Ok, Err}
use Rattle.std.specs.IoError.{error_kind}
use Rattle.std.specs.declared.io.Error.{Error}
use Rattle.crib_text.specs.Device.{glitch_for}
use Rattle.crib_text.specs.declared.devices.device.Glitch.{Glitch}

-- the result of a device's call, given that of the reader or writer inside
abbrev pub noted_as : Result ℕ Error → Result ℕ Glitch
noted_as (Ok n) = Ok n
noted_as (Err error) = Err (glitch_for (error_kind error))
