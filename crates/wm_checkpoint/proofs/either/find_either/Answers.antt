use Rattle.std.proofs.Common.{◌∙◌, ap, le_refl, take}
use Rattle.wm_checkpoint.specs.Layout.{file_len, sizes_2}
use Rattle.wm_checkpoint.proofs.Deciding.{decoded_reads, decoded_calls, err_is}
use Rattle.wm_checkpoint.proofs.Versions.{not_damaged}
use Rattle.wm_disk.specs.declared.refusal.Refusal.TheVariants.{Damaged as damaged}
use Rattle.wm_checkpoint.proofs.either.find_either.Goals as goal

pub returns-in-Err-clause-damaged : goal.returns-in-Err-clause-damaged
returns-in-Err-clause-damaged g c = λ h is. absurd (not_damaged c.in-Err.refusal c.in-Err.ensures.kinds (err_is c.in-Err.refusal damaged is))

pub returns-in-Ok-clause-found : goal.returns-in-Ok-clause-found
returns-in-Ok-clause-found g c = λ h. c.decode_either.ensures.found (g.D.Disk.seen c.args.disk.now) (file_len sizes_2, le_refl (file_len sizes_2), c.deref.ensures.value ∙ c.in-Ok.ensures.read h ∙ ap (λ n. take n (g.D.Disk.seen c.args.disk.now)) c.file_len.ensures)

pub returns-in-Ok-clause-damaged : goal.returns-in-Ok-clause-damaged
returns-in-Ok-clause-damaged g c = λ h is. c.decode_either.ensures.damaged (g.D.Disk.seen c.args.disk.now) (file_len sizes_2, le_refl (file_len sizes_2), c.deref.ensures.value ∙ c.in-Ok.ensures.read h ∙ ap (λ n. take n (g.D.Disk.seen c.args.disk.now)) c.file_len.ensures) is

pub returns-in-Ok-clause-retired : goal.returns-in-Ok-clause-retired
returns-in-Ok-clause-retired g c = λ h is. c.decode_either.ensures.retired (g.D.Disk.seen c.args.disk.now) (file_len sizes_2, le_refl (file_len sizes_2), c.deref.ensures.value ∙ c.in-Ok.ensures.read h ∙ ap (λ n. take n (g.D.Disk.seen c.args.disk.now)) c.file_len.ensures) is

pub returns-in-Ok-clause-reads : goal.returns-in-Ok-clause-reads
returns-in-Ok-clause-reads g c = λ h. decoded_reads g.D.Disk c.args.disk.now c.read_front.new.disk c.in-Ok.bytes c.decode_either.result (c.in-Ok.ensures.reads h)

pub returns-in-Ok-clause-device : goal.returns-in-Ok-clause-device
returns-in-Ok-clause-device g c = decoded_calls g.D.Disk c.args.disk.now c.read_front.new.disk c.in-Ok.bytes c.decode_either.result c.in-Ok.ensures.device c.decode_either.ensures.kinds
