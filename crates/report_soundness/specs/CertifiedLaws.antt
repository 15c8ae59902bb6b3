-- Laws of certified.
--   certificate_writable                where some text spells the report, and the certificate's numbers fit, some text spells it with the certificate
use Rattle.flow_facts.specs.Reports.{Certificate, Reported}
use Rattle.flow_facts.specs.Writable.{CertificateIsWritable, IsWritable}
use Rattle.report_soundness.specs.Certified.{with_certificate}

-- where some text spells the report, and the certificate's numbers fit, some text spells it with the certificate
pub certificate_writable : (report : Reported) (cert : Certificate) → IsWritable report → CertificateIsWritable cert
    → IsWritable (with_certificate report cert)
certificate_writable report cert is fits = record {
  form = is.form;
  few_nodes = is.few_nodes;
  nodes = is.nodes;
  few_scopes = is.few_scopes;
  scopes = is.scopes;
  facts = is.facts;
  ascends = is.ascends;
  count_bound = is.count_bound;
  path_bound = is.path_bound;
  certificate = fits;
}
