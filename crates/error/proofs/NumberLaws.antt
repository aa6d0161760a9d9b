-- The number of an error tells which error it is, and is not 0. Assumes nothing.
use Rattle.std.proofs.Common.{◌≡◌, ℕ, false, List, [], ◌∷◌, get_or, Option, Some, None, eqb, refl, sym, ap, ◌∙◌}
use borrow.Author.Tests.{ne_eqb}
use Rattle.error.specs.declared.Error.{Error}
use Rattle.error.specs.declared.Error.TheVariants.{InvalidHartId, HartAlreadyRunning, HartNotExecutable, CannotStartNotStoppedHart, CannotSuspedNotStartedHart, CannotStopNotStartedHart, CannotStartNotSuspendedHart, ReachedMaxNumberOfRemoteCommands, ReachedMaxNumberOfMmioRegions, OverlappingMmioRegion, EndTooLarge, TablesNotSound, RoomTooShort, NoSuchHardwareHart, HardwareHartBusy, HardwareHartIdle, OperationPending, SetupOutOfRange, UnknownKind, BadLine}
use Rattle.error.specs.Error.{done, number_of}

-- what each number stands for, from 0 on
meant : List (Option Error)
meant = None ∷ Some InvalidHartId ∷ Some HartAlreadyRunning ∷ Some HartNotExecutable ∷ Some CannotStartNotStoppedHart ∷ Some CannotSuspedNotStartedHart ∷ Some CannotStopNotStartedHart ∷ Some CannotStartNotSuspendedHart ∷ Some ReachedMaxNumberOfRemoteCommands ∷ Some ReachedMaxNumberOfMmioRegions ∷ Some OverlappingMmioRegion ∷ Some EndTooLarge ∷ Some TablesNotSound ∷ Some RoomTooShort ∷ Some NoSuchHardwareHart ∷ Some HardwareHartBusy ∷ Some HardwareHartIdle ∷ Some OperationPending ∷ Some SetupOutOfRange ∷ Some UnknownKind ∷ Some BadLine ∷ []

found : (e : Error) → get_or meant (number_of e) None ≡ Some e
unfolding meant
found InvalidHartId = refl
found HartAlreadyRunning = refl
found HartNotExecutable = refl
found CannotStartNotStoppedHart = refl
found CannotSuspedNotStartedHart = refl
found CannotStopNotStartedHart = refl
found CannotStartNotSuspendedHart = refl
found ReachedMaxNumberOfRemoteCommands = refl
found ReachedMaxNumberOfMmioRegions = refl
found OverlappingMmioRegion = refl
found EndTooLarge = refl
found TablesNotSound = refl
found RoomTooShort = refl
found NoSuchHardwareHart = refl
found HardwareHartBusy = refl
found HardwareHartIdle = refl
found OperationPending = refl
found SetupOutOfRange = refl
found UnknownKind = refl
found BadLine = refl

-- two errors of one number are one
pub number_once : (a b : Error) → number_of a ≡ number_of b → a ≡ b
number_once a b p =
    let e : Some a ≡ Some b = sym (found a) ∙ ap (λ (n : ℕ). get_or meant n None) p ∙ found b in
    cc

-- no error has the number of what is done
pub number_refuses : (e : Error) → eqb (number_of e) done ≡ false
unfolding meant
number_refuses e =
    ne_eqb (number_of e) done (λ p.
    let z : None ≡ Some e = sym (ap (λ (n : ℕ). get_or meant n None) p) ∙ found e in
    cc)
