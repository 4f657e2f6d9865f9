-- The bytes that a reader has not read yet, and those that a writer has written.
use Rattle.std.specs.Prelude.{ℕ, List}
use Rattle.failing_devices.specs.declared.Feed.{Feed}
use Rattle.failing_devices.specs.declared.Tray.{Tray}

-- the bytes that are still to be read
abbrev pub fed_bytes : Feed → List ℕ
fed_bytes feed = feed.rest.now

-- the bytes that were written
abbrev pub tray_bytes : {A : Type 0} → Tray A → List ℕ
tray_bytes tray = tray.bytes.items
