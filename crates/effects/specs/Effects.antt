-- What doing commands leaves: a record for each, and whether the hart is to be powered off.
use Rattle.std.specs.Prelude.{ℕ, ◌+◌, Bool, List, [], ◌∷◌, ◌++◌, eqb}
use Rattle.table_rows.specs.Lists.{any_of}
use Rattle.confidential_hart_remote_command.specs.declared.ConfidentialHartRemoteCommand.{ConfidentialHartRemoteCommand}
use Rattle.confidential_hart_remote_command.specs.Command.{shutdown_request, command_words, to_words}

-- how many words an effect record has
abbrev pub effect_words : ℕ
effect_words = 1 + command_words

-- an effect record: the hart's number, and the six numbers of the command that it did
abbrev pub effect_of : ℕ → ConfidentialHartRemoteCommand → List ℕ
effect_of hart c = hart ∷ to_words c

-- the records of commands that a hart did, in their order
unfoldable pub effects_of : ℕ → List ConfidentialHartRemoteCommand → List ℕ
effects_of hart [] = []
effects_of hart (c ∷ cs) = effect_of hart c ++ effects_of hart cs

-- the command is a shutdown request
abbrev pub is_shutdown : ConfidentialHartRemoteCommand → Bool
is_shutdown c = eqb c.kind shutdown_request

-- one of the commands is
unfoldable pub shuts_down : List ConfidentialHartRemoteCommand → Bool
shuts_down cs = any_of is_shutdown cs
