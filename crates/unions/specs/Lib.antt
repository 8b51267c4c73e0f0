-- Tables of unions.
pub mod Unions
