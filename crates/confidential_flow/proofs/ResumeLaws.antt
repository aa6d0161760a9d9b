-- A process, and then what the held hart goes on with: the outcome is that of a resume. Assumes nothing.
use Prim.Native.Nat.{ℕ, ◌+◌, ◌*◌, ◌≤◌}
use mathlib.Core.Path.{◌≡◌, sym, ap, ◌∙◌}
use mathlib.Core.List.{List}
use lib.ListN.{length}
use Rattle.std.proofs.Common.{Result, Ok, Err}
use Rattle.error.specs.declared.Error.{Error}
use Rattle.table_rows.specs.Choice.{pick}
use Rattle.confidential_hart.specs.declared.HardwareHartId.{HardwareHartId}
use Rattle.hart_rows.specs.HartRows.{hart_words}
use Rattle.monitor_requests.specs.declared.Answer.{Answer}
use Rattle.monitor_requests.specs.Tables.{Tables}
use Rattle.monitor_requests.specs.Requests.{with_hardware, Outcome, outcome, replied, counting, refused_reply, Going, going, goes_on, performed}
use Rattle.monitor_requests.proofs.SoundLaws.{sound_sized}
use Rattle.monitor_requests.proofs.MoveLaws.{hardware_fits}
use Rattle.monitor_requests.specs.declared.Request.TheVariants.{Process, Resume}
use Rattle.monitor_requests.proofs.WriteLaws.{lengths_kept}
use Rattle.monitor_requests.proofs.TellLaws.{process_count, continued, resume_is}

module _ (on : HardwareHartId) (t : Tables) (effects : List ℕ) (done : Result ℕ Error) {t' : Tables} {effects' : List ℕ}
    (e : replied (counting done) t' effects' ≡ performed (Process on) t effects) where
  continues : continued on.0 (replied (counting done) t' effects') ≡ performed (Resume on) t effects
  continues = ap (continued on.0) e ∙ sym (resume_is on t effects)

  -- a process that is refused ends the resume
  pub resume_ends : (f : Error) → done ≡ Err f → replied (refused_reply f) t' effects' ≡ performed (Resume on) t effects
  unfolding pick
  resume_ends f is = ap (λ (r : Result ℕ Error). continued on.0 (replied (counting r) t' effects')) (sym is) ∙ continues

  module _ (n : ℕ) (counts : done ≡ Ok n) where
    -- one that gives a count leaves a hart to go on
    pub resume_fits : on.0 * hart_words + hart_words ≤ length t'.hardware
    resume_fits =
        let p = process_count on t effects n (sym (ap (λ (o : Outcome). o.answer) e) ∙ ap (λ (r : Result ℕ Error). (counting r).answer) counts) in
        let x = p.every_done.held_real in
        rw (ap (λ (o : Outcome). length o.after.hardware) e ∙ (lengths_kept t effects (Process on)).hardware_same)
        (hardware_fits t (sound_sized t x.tables_sound) on.0 x.k_below)

    -- which is the outcome
    pub resume_goes_on : {r : Answer} {after : List ℕ} → going (Ok r) after ≡ goes_on t'.hardware on.0
        → outcome (Ok r) n (with_hardware after t') effects' ≡ performed (Resume on) t effects
    unfolding pick
    resume_goes_on g =
        ap (λ (x : Going). outcome x.answer n (with_hardware x.hardware t') effects') g
        ∙ ap (λ (r : Result ℕ Error). continued on.0 (replied (counting r) t' effects')) (sym counts)
        ∙ continues
