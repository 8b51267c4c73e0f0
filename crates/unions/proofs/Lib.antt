-- Laws of tables of unions.
pub mod UnionTables
