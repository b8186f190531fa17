use Rattle.std.specs.Prelude.{◌≡◌, Result, Ok, Err, ⊤}
use Rattle.outline_commands.specs.declared.command_error.CommandError.{CommandError}
use Rattle.outline_commands.specs.declared.command_error.CommandError.TheVariants.{Refused, Memory}

-- A refused command changes nothing.
abbrev pub IsUnchangedIfRefused : {X E : Type 0} → Result X CommandError → E → E → Type 0
IsUnchangedIfRefused (Ok x) old new = ⊤
IsUnchangedIfRefused (Err (Refused why)) old new = new ≡ old
IsUnchangedIfRefused (Err Memory) old new = ⊤
