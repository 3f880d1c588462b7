-- A failure is told of a unit exactly where its line names a fault.
use Rattle.std.proofs.Common.{◌≡◌, ℕ, refl}
use Rattle.amqp_session.specs.declared.report.Report.{Report}
use Rattle.amqp_session.specs.declared.report.Report.TheVariants as report
use Rattle.amqp_session.specs.Faults as session
use Rattle.amqp_endpoint.specs.Connections.{ConnectionState}
use Rattle.amqp_endpoint.specs.Lines.{Line, fault_on, told_on, link_fault_of, report_told}
use Rattle.amqp_endpoint.specs.Lines as line
use Rattle.amqp_endpoint.specs.Traces.{failure_in}

of_report : (channel : ℕ) (n : Report) → failure_in (report_told channel n) ≡ link_fault_of channel n
of_report channel report.Nothing = refl
of_report channel (report.Attached handle) = refl
of_report channel (report.Unfinished handle) = refl
of_report channel (report.Ready handle) = refl
of_report channel (report.Aborted handle) = refl
of_report channel (report.Drained handle) = refl
of_report channel (report.Settled count) = refl
of_report channel (report.Detached handle dropped) = refl
of_report channel (report.Failed handle c dropped) = refl

-- a line tells of a failure exactly where it names a fault
pub failures : (s : ConnectionState) (l : Line) → failure_in (told_on s l) ≡ fault_on l
failures s (line.SessionFrame channel live f) = of_report channel (session.report_of live f)
failures s _ = refl
