-- A command: its kinds, the numbers that each kind uses, and when two commands are equal.
use Rattle.std.specs.Prelude.{ℕ, Bool, ◌&&◌, ◌||◌, List, [], ◌∷◌, get_or, eqb}
use Rattle.confidential_hart_remote_command.specs.declared.ConfidentialHartRemoteCommand.{ConfidentialHartRemoteCommand}

-- the kinds
abbrev pub ipi : ℕ
ipi = 1

abbrev pub remote_fence_i : ℕ
remote_fence_i = 2

abbrev pub remote_sfence_vma : ℕ
remote_sfence_vma = 3

abbrev pub remote_sfence_vma_asid : ℕ
remote_sfence_vma_asid = 4

abbrev pub remote_hfence_gvma_vmid : ℕ
remote_hfence_gvma_vmid = 5

abbrev pub shutdown_request : ℕ
shutdown_request = 6

-- 4 RemoteSfenceVmaAsid and 5 RemoteHfenceGvmaVmid use tag
abbrev pub uses_tag : ℕ → Bool
uses_tag k = eqb k remote_sfence_vma_asid || eqb k remote_hfence_gvma_vmid

-- 3 RemoteSfenceVma and these use start and size
abbrev pub uses_range : ℕ → Bool
uses_range k = eqb k remote_sfence_vma || uses_tag k

-- 1 Ipi, 2 RemoteFenceI and these use mask and base
abbrev pub uses_harts : ℕ → Bool
uses_harts k = eqb k ipi || eqb k remote_fence_i || uses_range k

-- 6 ShutdownRequest uses none
abbrev pub is_kind : ℕ → Bool
is_kind k = uses_harts k || eqb k shutdown_request

-- there is such a kind, and each number that it does not use is 0
unfoldable pub well_formed : ConfidentialHartRemoteCommand → Bool
well_formed c =
    is_kind c.kind
    && (uses_harts c.kind || eqb c.mask 0 && eqb c.base 0)
    && (uses_range c.kind || eqb c.start 0 && eqb c.size 0)
    && (uses_tag c.kind || eqb c.tag 0)

-- two commands are equal when all six numbers are
unfoldable pub same : ConfidentialHartRemoteCommand → ConfidentialHartRemoteCommand → Bool
same a b =
    eqb a.kind b.kind && eqb a.mask b.mask && eqb a.base b.base && eqb a.start b.start
    && eqb a.size b.size
    && eqb a.tag b.tag

-- how many words a command has
abbrev pub command_words : ℕ
command_words = 6

-- the command that words hold
abbrev pub from_words : List ℕ → ConfidentialHartRemoteCommand
from_words ws =
    record {
      kind = get_or ws 0 0;
      mask = get_or ws 1 0;
      base = get_or ws 2 0;
      start = get_or ws 3 0;
      size = get_or ws 4 0;
      tag = get_or ws 5 0;
    }

-- the words of a command
abbrev pub to_words : ConfidentialHartRemoteCommand → List ℕ
to_words c = c.kind ∷ c.mask ∷ c.base ∷ c.start ∷ c.size ∷ c.tag ∷ []
