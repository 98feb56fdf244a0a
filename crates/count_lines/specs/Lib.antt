pub mod AuditLines
pub mod TallyLines
